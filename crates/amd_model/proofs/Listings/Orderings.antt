-- What is promised of an ordering, put together; and states that follow the rules come by steps.
use Rattle.std.proofs.Common.{Bool, false, ◌≡◌, List, [], ◌∷◌, ◌++◌, refl}
use Rattle.amd_model.specs.Graph.{Graph}
use Rattle.amd_model.specs.State.{State}
use Rattle.amd_model.specs.Step.{StepAt}
use Rattle.amd_model.specs.Run.{Steps, last_state}
use Rattle.amd_model.specs.Quotient.{QuotientGraph, Fits, is_empty, pivot, next}
use Rattle.amd_model.specs.Ordering.{Follows, none, more, OrderingsPromise}
use Rattle.amd_model.proofs.States.Paths.{fronts_in_each_state}
use Rattle.amd_model.proofs.States.Exact.{bounds_in_each_state}
use Rattle.amd_model.proofs.Figures.NeededColumns.{figures_cover}
use Rattle.amd_model.proofs.Forests.NoFill.{no_fill}
use Rattle.amd_model.proofs.Listings.ColumnsInside.{empty_columns, columns_inside}
use Rattle.amd_model.proofs.Listings.ListedOnce.{listings_are_permutations}
use Rattle.amd_model.proofs.States.EndState.{dense_are_last, last_rows_stay, edges_follow_tree}
use Rattle.amd_model.proofs.Figures.SmallFigures.{figures_are_small}

pub orderings_promise : OrderingsPromise
orderings_promise g dense aggressive first states p laws run listing = record {
  each_row = listings_are_permutations g dense aggressive first states laws run p listing;
  fronts = fronts_in_each_state g dense aggressive first states laws run.start run.steps;
  bounds = bounds_in_each_state g dense aggressive first states laws run.start run.steps;
  last_rows = last_rows_stay g dense aggressive first states laws run.start run.steps;
  dense_rows = dense_are_last g dense aggressive first states laws run;
  tree = edges_follow_tree g dense aggressive first states laws run;
  columns = columns_inside g dense aggressive first states laws run p listing;
  empty = empty_columns g dense aggressive first states laws run p listing;
  covers = figures_cover g dense aggressive first states laws run p listing;
  small = figures_are_small g dense aggressive first states laws run;
  forest = no_fill g dense aggressive first states laws run p listing;
}

-- states that follow the rules come by steps
pub follows_steps : (g : Graph) (aggressive : Bool) (t u : QuotientGraph) (s : State) (states : List State) →
    Follows g aggressive t s states u → Steps g aggressive s states
follows_steps g aggressive t u s _ none = tt
follows_steps g aggressive t u s _ (more {new = new} {rest = rest} some step fits later) =
    ((pivot t.bound t.placed, step), follows_steps g aggressive (next aggressive t) u new rest later)

-- one more state
pub follows_more : (g : Graph) (aggressive : Bool) (t u : QuotientGraph) (s : State) (states : List State) (new : State) →
    Follows g aggressive t s states u → is_empty u.placed ≡ false →
    StepAt g aggressive (pivot u.bound u.placed) (last_state s states) new → Fits g (next aggressive u) new →
    Follows g aggressive t s (states ++ new ∷ []) (next aggressive u) × (last_state s (states ++ new ∷ []) ≡ new)
follows_more g aggressive t u s _ new none some step fits = (more some step fits none, refl)
follows_more g aggressive t u s _ new (more {new = n} {rest = rest} some' step' fits' later) some step fits =
    let r = follows_more g aggressive (next aggressive t) u n rest new later some step fits in (more some' step' fits' r.0, r.1)
