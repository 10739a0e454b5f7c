-- The laws of the elimination kept in lists: it starts where an elimination starts, its rounds are steps, and they end
-- as a run.
use Rattle.std.specs.Prelude.{ℕ, ℤ, Bool, false, List, [], ◌≡◌}
use Rattle.amd_model.specs.Graph.{Graph, IsGraph}
use Rattle.amd_model.specs.State.{State, Live, IsStart}
use Rattle.amd_model.specs.Step.{StepAt}
use Rattle.amd_model.specs.Run.{Run, last_state}
use Rattle.amd_model.specs.Sound.{IsSound}
use Rattle.amd_model.specs.Input.Pattern.{graph_of, is_pair}
use Rattle.amd_model.specs.Quotient.{QuotientGraph, Fits, Once, has, is_empty, pivot, next, after_rounds}
use Rattle.amd_model.specs.Quotient.{start_quotient, starting_list}

-- a round with a class left leads to lists that stand for a state that a step with the pivot leads to
abbrev pub NextIsAStep : Type 0
NextIsAStep = (g : Graph) (aggressive : Bool) (t : QuotientGraph) (s : State) → IsGraph g → IsSound g s → Fits g t s →
    is_empty t.placed ≡ false →
    (new : State) × StepAt g aggressive (pivot t.bound t.placed) s new × Fits g (next aggressive t) new × IsSound g new

-- from lists that stand for a start, as many rounds as the graph has rows are a run: the lists stand for its last
-- state, and no class is left
abbrev pub RoundsAreARun : Type 0
RoundsAreARun = (g : Graph) (dense : ℕ → Bool) (aggressive : Bool) (t : QuotientGraph) (s : State) → IsGraph g →
    IsStart g dense s →
    Fits g t s →
    (states : List State) × Run g dense aggressive s states ×
    Fits g (after_rounds g.size aggressive t) (last_state s states)
    × ((after_rounds g.size aggressive t).placed ≡ [])

-- the list names exactly the neighbours of the row, each once
pub record NamesNeighbours (g : Graph) (i : ℕ) (xs : List ℕ) : Type 0 where
  pub named : (j : ℕ) → has xs j ≡ g.edge i j
  pub once : Once xs

-- with such lists for the live rows, the machine starts where the elimination starts
abbrev pub StartFits : Type 0
StartFits = (g : Graph) (dense : ℕ → Bool) (s : State) (lists : ℕ → List ℕ) → IsGraph g → IsStart g dense s →
    ((i : ℕ) → s.home i ≡ Live i → NamesNeighbours g i (lists i)) → Fits g (start_quotient g dense lists) s

-- the starting lists of a pattern are such lists
abbrev pub StartingLists : Type 0
StartingLists = (n : ℕ) (ap ai : List ℤ) (i : ℕ) →
    NamesNeighbours (graph_of n ap ai) i (starting_list n (is_pair n ap ai) i)
