-- The record of an elimination at its start, and the listing at its end.
use Rattle.std.specs.Prelude.{ℕ, Bool, List, Vec, ◌≡◌, ◌<◌, length}
use Rattle.amd_model.specs.Graph.{Graph, IsGraph, degree}
use Rattle.amd_model.specs.State.{State, IsStart}
use Rattle.amd_model.specs.Run.{Run, last_state}
use Rattle.amd_model.specs.Listing.{IsPostorder}
use Rattle.amd_model.specs.Quotient.{QuotientGraph, start_quotient}
use Rattle.amd_model.specs.QuotientLaws.{NamesNeighbours}
use Rattle.amd_plain.specs.Views.{num, list_at}
use Rattle.amd_plain.specs.Keeps.{PlainStands}
use Rattle.amd_plain.specs.declared.work.PlainWork.{PlainWork}

-- of each graph with these degrees and these lists of neighbours the record stands for the start in which exactly the
-- rows of the set last are held last
abbrev pub StandsAtStart : {A : Type 0} → List (Vec ℕ A) → List ℕ → (ℕ → Bool) → PlainWork A → Type 0
StandsAtStart rows degrees last w = (g : Graph) (dense : ℕ → Bool) (lists : ℕ → List ℕ) (s : State) → IsGraph g →
    g.size ≡ length degrees →
    ((i : ℕ) → i < g.size → num degrees i ≡ degree g i) → ((i : ℕ) → i < g.size → last i ≡ dense i) →
    ((i : ℕ) → i < g.size → list_at rows i ≡ lists i) →
    ((i : ℕ) → i < g.size → NamesNeighbours g i (lists i)) → IsStart g dense s →
    PlainStands g dense w (start_quotient g dense lists) s

-- a run at whose end the record stands: its graph, the rows held last, its states, and the lists of the last of them
pub record EndsRun {A : Type 0} (w : PlainWork A) : Type 0 where
  pub graph : Graph
  pub dense : ℕ → Bool
  pub aggressive : Bool
  pub first : State
  pub states : List State
  pub lists : QuotientGraph
  pub laws : IsGraph graph
  pub run : Run graph dense aggressive first states
  pub stands : PlainStands graph dense w lists (last_state first states)

-- whatever run the record stands at the end of, p lists its assembly tree in postorder, and then the dense rows
abbrev pub ListsRun : {A : Type 0} → PlainWork A → List ℕ → Type 0
ListsRun w p = (g : Graph) (dense : ℕ → Bool) (aggressive : Bool) (first : State) (states : List State)
    (t : QuotientGraph) →
    Run g dense aggressive first states → PlainStands g dense w t (last_state first states) →
    IsPostorder g dense (last_state first states) p
