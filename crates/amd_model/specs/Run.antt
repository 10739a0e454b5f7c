-- Runs of the elimination. Source: Amestoy, Davis and Duff 1996.
use Rattle.std.specs.Prelude.{ℕ, Bool, false, ◌≡◌, List, [], ◌∷◌}
use Rattle.amd_model.specs.Graph.{Graph}
use Rattle.amd_model.specs.State.{State, IsStart, live}
use Rattle.amd_model.specs.Step.{Step}

-- from s, each state of the list comes by a step from the one before
abbrev pub Steps : Graph → Bool → State → List State → Type 0
Steps g aggressive s [] = Unit {0}
Steps g aggressive s (t ∷ rest) = Step g aggressive s t × Steps g aggressive t rest

-- the state that the steps lead to
abbrev pub last_state : State → List State → State
last_state s [] = s
last_state s (t ∷ rest) = last_state t rest

-- a run: from a start, by steps, to a state with no live row
pub record Run (g : Graph) (dense : ℕ → Bool) (aggressive : Bool) (first : State) (states : List State) : Type 0 where
  pub start : IsStart g dense first
  pub steps : Steps g aggressive first states
  pub end : (v : ℕ) → live (last_state first states) v ≡ false

-- P holds of the first state and of each later one
abbrev pub EachState : (State → Type 0) → State → List State → Type 0
EachState P s [] = P s
EachState P s (t ∷ rest) = P s × EachState P t rest
