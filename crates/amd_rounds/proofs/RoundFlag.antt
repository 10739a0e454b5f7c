-- The flag of a round: where it stands before classes are compared, how far it rises, and the greatest border.
use Rattle.std.proofs.Common.{ℕ, Bool, List, ◌≡◌, ◌≤◌, ◌+◌, ◌-◌, inl, inr, sym, ap, ◌∙◌, arith, length}
use Rattle.std.specs.Prelude.{max, nat_lt}
use Rattle.std.proofs.lemmas.Bool.{cases_lt, cond-true, cond-false, lt-ltb, le-ltb}
use Rattle.amd_model.specs.Graph.{Graph}
use Rattle.amd_model.specs.State.{State}
use Rattle.amd_model.specs.Quotient.{QuotientGraph, gathered, pivot}
use Rattle.amd_fronts.specs.Effects.{KeepsOrResets}
use Rattle.amd_words.specs.Words.{num, start}
use Rattle.amd_words.proofs.RowLists.{rows_length}
use Rattle.amd_lists.specs.Workspaces.{Workspace}
use Rattle.amd_rounds.specs.Keeps.{renewed_flag, compared_flag, RaisesFlagInRound}
use Rattle.amd_rounds.specs.Parts.{Picks, BeginsElement, TurnsOver, RaisesFlag, MergesFront, EndsFront}
use Rattle.amd_rounds.proofs.Halves.{HalfRound, most_stays}
use Rattle.amd_rounds.proofs.Openings.{half, merges_of, ends_of}
use Rattle.amd_rounds.proofs.Relinked.{is_pivot}
use Rattle.amd_rounds.proofs.RoundLaw.{pivot_border}
use Rattle.amd_rounds.proofs.RoundNumbers.{front_length}
use Rattle.amd_rounds.proofs.Turned.{front_after}

-- a flag that was kept or set anew, as a number
renewal : (most_cell flag flag' : ℕ) (w w' : List ℕ) → KeepsOrResets most_cell flag w w' flag' →
    flag' ≡ renewed_flag most_cell (length w) flag
renewal most_cell flag flag' w w' told = elim (cases_lt (flag + length w) most_cell) [
  | inl l ↦ (told.0 l).0 ∙ sym (cond-true (nat_lt (flag + length w) most_cell) flag 2 (lt-ltb (flag + length w) most_cell l))
  | inr m ↦ (told.1 m).0 ∙ sym (cond-false (nat_lt (flag + length w) most_cell) flag 2 (le-ltb (flag + length w) most_cell m))
]

module _ {g : Graph} {dense : ℕ → Bool} {nzaat : ℕ} {aggressive : Bool} {p : Workspace} {t : QuotientGraph} {s : State}
    (r : HalfRound g dense nzaat aggressive p t s) (p4 : Workspace)
    (merges : MergesFront g.size r.c (r.block + r.gone) (r.total - r.gone) r.p3 p4)
    (raises : RaisesFlag r.c (r.total - r.gone) r.most_cell r.p3 p4) (v : Workspace)
    (ended : EndsFront g.size r.c (r.block + r.gone) (r.total - r.gone) r.is_built p4 v) where
  flag_before : r.p2.flag ≡ p.flag
  flag_before = ap (λ (w : Workspace). w.flag) r.begins.same ∙ ap (λ (w : Workspace). w.flag) r.picks.same

  turned_flag : r.p3.flag ≡ renewed_flag r.most_cell (length p.w) p.flag
  turned_flag = renewal r.most_cell r.p2.flag r.p3.flag r.p2.w r.turns.first r.turns.renews.renewed
      ∙ ap (λ m. renewed_flag r.most_cell m r.p2.flag) (r.begins.sized.w ∙ sym r.st.laid.sized.w)
      ∙ ap (renewed_flag r.most_cell (length p.w)) flag_before

  most_now : v.most ≡ max r.p3.most (r.total - r.gone)
  most_now = ap (λ (w : Workspace). w.most) ended.same ∙ ap (λ (w : Workspace). w.most) merges.same

  merged_flag : raises.flag ≡ compared_flag r.most_cell p v
  merged_flag = renewal r.most_cell (r.p3.flag + max r.p3.most (r.total - r.gone)) raises.flag r.p3.w raises.first raises.renewed
      ∙ ap (λ m. renewed_flag r.most_cell m (r.p3.flag + max r.p3.most (r.total - r.gone)))
      (r.turns.sized.w ∙ sym r.st.laid.sized.w)
      ∙ ap (λ m. renewed_flag r.most_cell (length p.w) (r.p3.flag + m)) (sym most_now)
      ∙ ap (λ m. renewed_flag r.most_cell (length p.w) (m + v.most)) turned_flag

  words_few : num r.p3.len r.c ≡ length (gathered t r.c)
  words_few = sym (rows_length r.p3.iw (start r.p3.pe r.c) (num r.p3.len r.c)) ∙ ap length (front_after r)
      ∙ front_length r p4 merges v ended

  flag_now : v.flag ≡ p4.flag
  flag_now = ap (λ (w : Workspace). w.flag) ended.same

  pub flag_from : (compared_flag r.most_cell p v ≤ v.flag)
      × (v.flag ≤ compared_flag r.most_cell p v + length (gathered t (pivot t.bound t.placed)))
      × (v.most ≡ max p.most (num v.degree (pivot t.bound t.placed)))
  flag_from = let at = merged_flag in let now = flag_now in let few = words_few in let low = raises.rises.0 in
      let high = raises.rises.1 in let c = ap (λ c. length (gathered t c)) (is_pivot r p4 merges) in (
        omega (arith, at, now, low),
        omega (arith, at, now, few, high, c),
        most_now ∙ ap (λ m. max m (r.total - r.gone)) (most_stays r)
            ∙ ap (max p.most) (sym (pivot_border r p4 merges v ended)) ∙ ap (λ c. max p.most (num v.degree c)) (is_pivot r p4 merges),
      )

-- the parts raise the flag as a round does
pub raises_flag : {aggressive is_built : Bool} {c block total gone most_cell : ℕ} {p p1 p2 p3 p4 v : Workspace} →
    Picks (length p.nv) c p p1 → BeginsElement (length p1.nv) c block total is_built p1 p2 →
    TurnsOver aggressive (length p2.nv) c gone most_cell p2 p3 →
    MergesFront (length p3.nv) c (block + gone) (total - gone) p3 p4 →
    RaisesFlag c (total - gone) most_cell p3 p4 →
    EndsFront (length p4.nv) c (block + gone) (total - gone) is_built p4 v → RaisesFlagInRound most_cell p v
unfolding half
raises_flag {p4 = p4} {v = v} picks begins turns merges raises ended g dense nzaat t s st =
    let size3 = turns.sized.nv ∙ begins.sized.nv ∙ picks.sized.nv ∙ st.laid.sized.nv in
    flag_from (half st picks begins turns) p4 (merges_of size3 merges) raises v (ends_of (merges.sized.nv ∙ size3) ended)
