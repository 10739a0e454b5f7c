-- A round over lists is a step: the next lists stand for the next state.
use Rattle.std.proofs.Common.{ℕ, Bool, true, false, ◌≡◌, ◌≤◌, sym, ◌∙◌, arith, List, [], ◌∷◌}
use Rattle.std.proofs.lemmas.Bool.{true≢false}
use Rattle.amd_model.specs.Graph.{Graph, IsGraph}
use Rattle.amd_model.specs.State.{State, is_class}
use Rattle.amd_model.specs.Step.{StepAt}
use Rattle.amd_model.specs.Quotient.{QuotientGraph, has, is_empty, pivot, next, Fits}
use Rattle.amd_model.specs.Sound.{IsSound}
use Rattle.amd_model.proofs.States.Words.{class_gives}
use Rattle.amd_model.proofs.Quotient.Lists.{pivot_least, pivot_named}
use Rattle.amd_model.proofs.Quotient.Round.RoundAt.{RoundAt}
use Rattle.amd_model.proofs.Quotient.Round.After.{state_after, step_after, lists_after}
use Rattle.amd_model.proofs.Quotient.Round.NextLists.{placed_after, variables_after, elements_after, members_after, placed_once}
use Rattle.amd_model.proofs.Quotient.Round.NextLists.{variables_once, elements_once, members_once}
use Rattle.amd_model.proofs.Quotient.Round.Homes.{parent_after, home_after}
use Rattle.amd_model.proofs.Quotient.Round.Sizes.{size_after}
use Rattle.amd_model.proofs.Quotient.Round.Bounds.{bound_after}

module _ {g : Graph} {aggressive : Bool} {t : QuotientGraph} {s : State} {c : ℕ} (this : RoundAt g aggressive t s c) where
  abbrev new : State
  new = state_after this

  abbrev now : QuotientGraph
  now = lists_after this

  pub fits_after : Fits g now new
  fits_after = record {
    placed = placed_after this;
    variables = variables_after this;
    elements = elements_after this;
    members = members_after this;
    placed_once = placed_once this;
    variables_once = variables_once this;
    elements_once = elements_once this;
    members_once = members_once this;
    size = size_after this;
    bound = bound_after this;
    home = home_after this;
    parent = parent_after this;
  }

pivot_at : (bound : ℕ → ℕ) (xs : List ℕ) → is_empty xs ≡ false → (has xs (pivot bound xs) ≡ true)
    × ((d : ℕ) → has xs d ≡ true → bound (pivot bound xs) ≤ bound d)
unfolding is_empty
pivot_at bound [] e = absurd (true≢false e)
pivot_at bound (x ∷ xs) e = (pivot_named bound x xs, λ d h. pivot_least bound x xs d h)

-- the next lists stand for a state that a step leads to
pub next_law : (g : Graph) → IsGraph g → (aggressive : Bool) (t : QuotientGraph) (s : State) → IsSound g s → Fits g t s →
    is_empty t.placed ≡ false →
    (new : State) × StepAt g aggressive (pivot t.bound t.placed) s new × Fits g (next aggressive t) new
unfolding next
next_law g laws aggressive t s sound fits some =
    let c : ℕ = pivot t.bound t.placed in
    let p = pivot_at t.bound t.placed some in
    let class : is_class s c ≡ true = sym (fits.placed c) ∙ p.0 in
    let least : (d : ℕ) → is_class s d ≡ true → s.bound c ≤ s.bound d = λ d k. let l = p.1 d (fits.placed d ∙ k) in
    let a = fits.bound c (class_gives c (s.home c) class) in let b = fits.bound d (class_gives d (s.home d) k) in omega (arith, l, a, b) in
    let this : RoundAt g aggressive t s c = record { laws = laws; sound = sound; fits = fits; class = class; least = least } in
    (state_after this, step_after this, fits_after this)
