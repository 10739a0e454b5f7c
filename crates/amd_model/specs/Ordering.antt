-- What an ordering of a graph is: the listing of a run of the elimination with each choice made by the rules of
-- QuotientGraph, and what holds of it. Source: Amestoy, Davis and Duff 1996 and 2004; George and Liu 1981.
use Rattle.std.specs.Prelude.{ℕ, Bool, false, ◌≡◌, List, [], ◌∷◌}
use Rattle.amd_model.specs.Below.{count_below}
use Rattle.amd_model.specs.Graph.{Graph, IsGraph}
use Rattle.amd_model.specs.State.{State}
use Rattle.amd_model.specs.Step.{StepAt}
use Rattle.amd_model.specs.Run.{Run, EachState, last_state}
use Rattle.amd_model.specs.Listing.{IsPostorder, ListsEachRow}
use Rattle.amd_model.specs.Forest.{IsForest}
use Rattle.amd_model.specs.Quotient.{QuotientGraph, Fits, is_empty, pivot, next, start_quotient}
use Rattle.amd_model.specs.Laws.{FrontsArePaths, BoundsMeetDegrees, LastRowsAre, DenseAreLast, EdgesFollowTree}
use Rattle.amd_model.specs.Laws.{ColumnsInside, EmptyColumns}
use Rattle.amd_model.specs.Laws.{Covers, HasNoFill, FiguresAreSmall}

-- the states of an elimination kept in lists: each comes by the step with the pivot that the rules choose, and the
-- lists stand for it
pub data Follows (g : Graph) (aggressive : Bool) : QuotientGraph → State → List State → QuotientGraph → Type 0 where
  none : {t : QuotientGraph} {s : State} → Follows g aggressive t s [] t
  more : {t u : QuotientGraph} {s new : State} {rest : List State} → is_empty t.placed ≡ false →
      StepAt g aggressive (pivot t.bound t.placed) s new →
      Fits g (next aggressive t) new → Follows g aggressive (next aggressive t) new rest u →
      Follows g aggressive t s (new ∷ rest) u

-- p lists the assembly tree of a run of least bounds in postorder, the dense rows last; the run is that of the rules,
-- from the starting lists given
pub record IsListingOf (g : Graph) (dense : ℕ → Bool) (aggressive : Bool) (lists : ℕ → List ℕ) (first : State)
    (states : List State)
    (p : List ℕ) : Type 0 where
  pub run : Run g dense aggressive first states
  pub starts : Fits g (start_quotient g dense lists) first
  pub end : QuotientGraph
  pub follows : Follows g aggressive (start_quotient g dense lists) first states end
  pub listing : IsPostorder g dense (last_state first states) p

-- what holds of a run and of its listing
pub record Promises (g : Graph) (dense : ℕ → Bool) (first : State) (states : List State) (p : List ℕ) : Type 0 where
  -- each row stands in the listing once
  pub each_row : ListsEachRow g.size p
  -- in each state the front of a class is what its rows reach through eliminated rows, and its bound is no lower than
  -- that
  pub fronts : EachState (FrontsArePaths g) first states
  pub bounds : EachState (BoundsMeetDegrees g) first states
  -- in each state exactly the rows of the set are held last
  pub last_rows : EachState (LastRowsAre g dense) first states
  -- edges lie along the assembly tree, and columns of the factor in fronts
  pub dense_rows : DenseAreLast g dense (last_state first states)
  pub tree : EdgesFollowTree g (last_state first states)
  pub columns : ColumnsInside g (last_state first states) p
  pub empty : EmptyColumns g p
  -- the figures are never below what the factor needs, and the entries and the greatest front at most those of a full
  -- matrix
  pub covers : Covers g dense (last_state first states) p
  pub small : FiguresAreSmall g dense (last_state first states)
  -- a forest without dense rows has no fill
  pub forest : IsForest g → count_below g.size dense ≡ 0 → HasNoFill g dense (last_state first states) p

-- each listing in postorder of a run keeps the promises
abbrev pub OrderingsPromise : Type 0
OrderingsPromise = (g : Graph) (dense : ℕ → Bool) (aggressive : Bool) (first : State) (states : List State)
    (p : List ℕ) →
    IsGraph g → Run g dense aggressive first states → IsPostorder g dense (last_state first states) p →
    Promises g dense first states p

-- two states tell one tree: where each row is, and the border and the parent of each element
pub record SameTree (s t : State) : Type 0 where
  pub home : (v : ℕ) → s.home v ≡ t.home v
  pub border : (e v : ℕ) → s.border e v ≡ t.border e v
  pub parent : (e : ℕ) → s.parent e ≡ t.parent e

-- from the same starting lists there is one ordering: its run ends in one tree, and it lists the same rows
abbrev pub OneOrdering : Type 0
OneOrdering = (g : Graph) (dense : ℕ → Bool) (aggressive : Bool) (lists : ℕ → List ℕ) (first other : State)
    (states others : List State)
    (p q : List ℕ) →
    IsListingOf g dense aggressive lists first states p → IsListingOf g dense aggressive lists other others q →
    (p ≡ q) × SameTree (last_state first states) (last_state other others)
