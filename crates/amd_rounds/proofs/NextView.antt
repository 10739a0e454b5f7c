-- After a round the workspace stands for the next lists of the rules, and for a state that a step leads to.
use Rattle.std.proofs.Common.{ℕ, Bool, true, false, ◌≡◌, ◌<◌, ◌≤◌, ◌+◌, ◌-◌, sym, ap, ◌∙◌, arith}
use Rattle.std.specs.Prelude.{◌^◌}
use Rattle.amd_model.specs.Graph.{Graph}
use Rattle.amd_model.specs.State.{State}
use Rattle.amd_model.specs.Step.{StepAt}
use Rattle.amd_model.specs.Quotient.{QuotientGraph, has, is_empty, pivot, next}
use Rattle.amd_round_laws.specs.Keeps as views
use Rattle.amd_round_laws.proofs.Rounding.{Rounding}
use Rattle.amd_round_laws.proofs.Round.Finding as finding
use Rattle.amd_round_laws.proofs.Round.Turn.{Turn}
use Rattle.amd_round_laws.proofs.Round.NextRound.{one_round}
use Rattle.amd_lists.specs.Workspaces.{Workspace}
use Rattle.amd_rounds.specs.Views.{view_of}
use Rattle.amd_rounds.specs.Parts.{MergesFront}
use Rattle.amd_rounds.proofs.Halves.{HalfRound, pivot_chosen, pivot_placed, pivot_least}
use Rattle.amd_rounds.proofs.Relinked.{is_pivot}

module _ {g : Graph} {dense : ℕ → Bool} {nzaat : ℕ} {aggressive : Bool} {p : Workspace} {t : QuotientGraph} {s : State}
    (r : HalfRound g dense nzaat aggressive p t s) (p4 : Workspace)
    (merges : MergesFront g.size r.c (r.block + r.gone) (r.total - r.gone) r.p3 p4) (v : Workspace)
    (rounding : Rounding aggressive (view_of p) (view_of v)) (pivot_is : rounding.c ≡ r.c) (least_is : rounding.least ≡ r.p1.least) where
  placed : has t.placed rounding.c ≡ true
  placed = ap (has t.placed) pivot_is ∙ pivot_placed r

  lowest : rounding.least ≡ t.bound rounding.c
  lowest = least_is ∙ sym (pivot_chosen r).1 ∙ ap t.bound (sym pivot_is)

  low : (d : ℕ) → has t.placed d ≡ true → t.bound rounding.c ≤ t.bound d
  low d h = let a = pivot_least r d h in let b = ap t.bound pivot_is in omega (arith, a, b)

  pub turn : Turn g dense aggressive (view_of p) (view_of v) t s
  turn = record {
    before = r.st.view;
    wrote = rounding;
    found = finding.found g dense aggressive (view_of p) (view_of v) t s r.st.view rounding placed lowest
        (pivot_is ∙ is_pivot r p4 merges) low;
  }

  pub view_after : g.size < 2 ^ 63 → (is_empty t.placed ≡ false) × ((u : State) × StepAt g aggressive (pivot t.bound t.placed) s u
      × views.ViewStands g dense (view_of v) (next aggressive t) u)
  view_after small = one_round turn (omega (arith, small))
