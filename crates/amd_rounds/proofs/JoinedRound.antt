-- The parts of a round join: from any lists and state that the workspace stands for, they lead to those of the next round.
use Rattle.std.proofs.Common.{ℕ, Bool, false, ◌≡◌, ◌<◌, ◌+◌, ◌-◌, subst, ◌∙◌, cond, length, arith}
use Rattle.std.specs.Prelude.{◌^◌}
use Rattle.amd_model.specs.Graph.{Graph}
use Rattle.amd_model.specs.State.{State}
use Rattle.amd_model.specs.Step.{StepAt}
use Rattle.amd_model.specs.Quotient.{QuotientGraph, is_empty, pivot, next}
use Rattle.amd_lists.specs.Workspaces.{Workspace}
use Rattle.amd_rounds.specs.Keeps.{Stands, IsRound, is_packed}
use Rattle.amd_rounds.specs.Parts.{Picks, BeginsElement, TurnsOver, MergesFront, EndsFront}
use Rattle.amd_rounds.proofs.Halves.{HalfRound}
use Rattle.amd_rounds.proofs.Openings.{half, merges_of, ends_of}
use Rattle.amd_rounds.proofs.Relinked.{is_pivot}
use Rattle.amd_rounds.proofs.RoundNumbers.{packed_is}
use Rattle.amd_rounds.proofs.RoundLaw.{view_next, linked_next}
use Rattle.amd_rounds.proofs.LaidElements.{laid_after}
use Rattle.amd_rounds.proofs.Held.{held_after}

module _ {g : Graph} {dense : ℕ → Bool} {nzaat : ℕ} {aggressive : Bool} {p : Workspace} {t : QuotientGraph} {s : State}
    (r : HalfRound g dense nzaat aggressive p t s) (p4 : Workspace)
    (merges : MergesFront g.size r.c (r.block + r.gone) (r.total - r.gone) r.p3 p4) (v : Workspace)
    (ended : EndsFront g.size r.c (r.block + r.gone) (r.total - r.gone) r.is_built p4 v) where
  pub round_from : g.size < 2 ^ 63 → (is_empty t.placed ≡ false) × ((u : State) × StepAt g aggressive (pivot t.bound t.placed) s u
      × Stands g dense nzaat v (next aggressive t) u)
      × (v.n_cmp_a ≡ p.n_cmp_a + cond (is_packed p t (pivot t.bound t.placed)) 1 0)
  round_from small = let done = view_next r p4 merges v ended small in (
    done.0,
    (
      done.1.0,
      done.1.1,
      record {
        view = done.1.2;
        laid = laid_after r p4 merges v ended small;
        linked = linked_next r p4 merges v ended small;
        held = held_after r p4 merges v ended done.1.0 done.1.1 done.1.2;
      },
    ),
    subst (λ c. v.n_cmp_a ≡ p.n_cmp_a + cond (is_packed p t c) 1 0) (is_pivot r p4 merges) (packed_is r p4 merges v ended),
  )

-- the parts make a round
pub is_round : {aggressive is_built : Bool} {c block total gone most_cell : ℕ} {p p1 p2 p3 p4 v : Workspace} → length p.nv < 2 ^ 63 →
    Picks (length p.nv) c p p1 → BeginsElement (length p1.nv) c block total is_built p1 p2 →
    TurnsOver aggressive (length p2.nv) c gone most_cell p2 p3 →
    MergesFront (length p3.nv) c (block + gone) (total - gone) p3 p4 →
    EndsFront (length p4.nv) c (block + gone) (total - gone) is_built p4 v → IsRound aggressive p v
unfolding half
is_round {p4 = p4} {v = v} small picks begins turns merges ended g dense nzaat t s st =
    let size3 = turns.sized.nv ∙ begins.sized.nv ∙ picks.sized.nv ∙ st.laid.sized.nv in let size = st.laid.sized.nv in
    round_from (half st picks begins turns) p4 (merges_of size3 merges) v (ends_of (merges.sized.nv ∙ size3) ended)
    (omega (arith, size, small))
