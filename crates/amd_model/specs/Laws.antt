-- The laws of eliminations, in the words of the field. They hold for every permitted choice of pivot and
-- representative. No statement here is a law by itself: each is the contract of a function in src/, where it is proved.
-- Source: Amestoy, Davis and Duff 1996, 2004; George and Liu 1981.
use Rattle.std.specs.Prelude.{ℕ, Bool, true, false, List, Some, ◌≡◌, ◌≢◌, ◌≤◌, ◌<◌, ◌↔◌, ◌⊎◌, ◌+◌, ◌*◌, ◌-◌, ◌/◌, ◌&&◌}
use Rattle.std.specs.Prelude.{length, slice_index}
use Rattle.amd_model.specs.Below.{any_below, count_below}
use Rattle.amd_model.specs.Graph.{Graph, IsGraph, degree, edge_count}
use Rattle.amd_model.specs.State.{State, Home, Last, Live, Gone, live, eliminated, in_class, is_class, stands, holds}
use Rattle.amd_model.specs.State.{neighbours, front}
use Rattle.amd_model.specs.State.{IsStart}
use Rattle.amd_model.specs.Step.{outer, block, border_of}
use Rattle.amd_model.specs.Run.{Run, Steps, EachState, last_state}
use Rattle.amd_model.specs.Figures.{figure, entries, ldl_steps, lu_steps, greatest_front}
use Rattle.amd_model.specs.Listing.{IsPostorder}
use Rattle.amd_model.specs.Reach.{Reach, TrueDegree}
use Rattle.amd_model.specs.Sound.{Together}
use Rattle.amd_model.specs.Factor.{before, IsFactor, needed, needed_front}

-- ---- of one state

-- the front of a class is what each of its rows reaches through eliminated rows: live rows outside the class
abbrev pub FrontsArePaths : Graph → State → Type 0
FrontsArePaths g s = (c v w : ℕ) → in_class s c v ≡ true →
    (front g s c w ≡ true) ↔ ((live s w ≡ true) × (in_class s c w ≡ false) × Reach g (eliminated s) v w)

-- the number of rows in the front of a class
unfoldable pub front_size : Graph → State → ℕ → ℕ
front_size g s c = count_below g.size (front g s c)

-- the number of standing elements that hold a class
unfoldable pub holders : Graph → State → ℕ → ℕ
holders g s c = count_below g.size (λ e. holds g s e c)

-- the row is held last
unfoldable pub is_last : Home → Bool
is_last Last = true
is_last (Live c) = false
is_last (Gone e) = false

-- the number of rows held last that an edge joins to a class
unfoldable pub last_neighbours : Graph → State → ℕ → ℕ
last_neighbours g s c = count_below g.size (λ v. is_last (s.home v) &&
    any_below g.size (λ w. in_class s c w && g.edge w v))

-- the size of a front is the true external degree, and the bound is no lower: equal where one or two elements hold the
-- class, and greater by its dense neighbours where none does
pub record BoundsMeetDegrees (g : Graph) (s : State) : Type 0 where
  pub degree : (c : ℕ) → is_class s c ≡ true → TrueDegree g s c (front_size g s c)
  pub enough : (c : ℕ) → is_class s c ≡ true → front_size g s c ≤ s.bound c
  pub exact : (c : ℕ) → is_class s c ≡ true → 0 < holders g s c → holders g s c ≤ 2 → s.bound c ≡ front_size g s c
  pub untouched : (c : ℕ) → is_class s c ≡ true → holders g s c ≡ 0 → s.bound c ≡ front_size g s c
      + last_neighbours g s c

-- what is tested at the representative of a class holds of its rows alike: lying on a border, in a front, in a block
-- and on a border to be made, and being alike; and each row of a class has an edge to each row of a direct neighbour
pub record ClassesAreWhole (g : Graph) (aggressive : Bool) (s : State) : Type 0 where
  pub held : (e d v : ℕ) → stands g s e ≡ true → in_class s d v ≡ true → holds g s e d ≡ s.border e v
  pub fronts : (c d v : ℕ) → in_class s d v ≡ true → front g s c d ≡ front g s c v
  pub blocks : (c d v : ℕ) → in_class s d v ≡ true → block g aggressive s c d ≡ block g aggressive s c v
  pub borders : (c d v : ℕ) → in_class s d v ≡ true → border_of g aggressive s c d ≡ border_of g aggressive s c v
  pub edges : (c d v w : ℕ) → neighbours g s c d ≡ true → in_class s c v ≡ true → in_class s d w ≡ true →
      g.edge v w ≡ true
  -- being alike: a class has a direct neighbour outside L and c exactly if each row of the one has an edge to each row
  -- of the other, no standing element has both rows on its border, and the other row lies outside L and c
  pub likeness : (c d z v w : ℕ) → in_class s d v ≡ true → in_class s z w ≡ true → d ≢ z →
      (outer g s c d z ≡ true) ↔ ((g.edge v w ≡ true) × (front g s c w ≡ false) × (in_class s c w ≡ false) ×
      (Together g s v w → ⊥))

-- ---- of the last state of a run, and of its listing

-- exactly the dense rows are held last, and each other row was eliminated
pub record DenseAreLast (g : Graph) (dense : ℕ → Bool) (s : State) : Type 0 where
  pub held : (v : ℕ) → v < g.size → dense v ≡ true → s.home v ≡ Last
  pub others : (v : ℕ) → v < g.size → dense v ≡ false → eliminated s v ≡ true

-- the state has a listing in postorder
pub record HasListing (g : Graph) (dense : ℕ → Bool) (s : State) : Type 0 where
  pub listing : List ℕ
  pub lists : IsPostorder g dense s listing

-- e is f, or a descendant of f
pub data Under (s : State) : ℕ → ℕ → Type 0 where
  itself : {e : ℕ} → Under s e e
  over : {e f h : ℕ} → s.parent e ≡ Some f → Under s f h → Under s e h

-- an edge between rows that are not dense joins rows of one block, or of two blocks of which one is a descendant of the
-- other
abbrev pub EdgesFollowTree : Graph → State → Type 0
EdgesFollowTree g s = (v w e f : ℕ) → g.edge v w ≡ true → s.home v ≡ Gone e → s.home w ≡ Gone f → Under s e f ⊎
    Under s f e

-- the column of a row lies in the later rows of its block, on the border of its element, and in the dense rows
abbrev pub ColumnsInside : Graph → State → List ℕ → Type 0
ColumnsInside g s p = (k j e : ℕ) → k < j → j < length p → s.home (slice_index p k) ≡ Gone e →
    Reach g (before p k) (slice_index p k) (slice_index p j) →
    (s.home (slice_index p j) ≡ Gone e) ⊎ (s.border e (slice_index p j) ≡ true) ⊎ (s.home (slice_index p j) ≡ Last)

-- the column of an empty row has no entry
abbrev pub EmptyColumns : Graph → List ℕ → Type 0
EmptyColumns g p = (k w : ℕ) → degree g (slice_index p k) ≡ 0 → Reach g (before p k) (slice_index p k) w → ⊥

-- the figures of a run are no less than what the columns need
pub record Covers (g : Graph) (dense : ℕ → Bool) (s : State) (p : List ℕ) : Type 0 where
  pub columns : List (List ℕ)
  pub factor : IsFactor g p columns
  pub entries_need : needed entries columns ≤ figure entries g dense s
  pub ldl_need : needed ldl_steps columns ≤ figure ldl_steps g dense s
  pub lu_need : needed lu_steps columns ≤ figure lu_steps g dense s
  pub front_need : needed_front columns ≤ greatest_front g dense s

-- each entry of the factor under the listing p is an edge
abbrev pub EntriesAreEdges : Graph → List ℕ → Type 0
EntriesAreEdges g p = (k j : ℕ) → k < j → j < length p → Reach g (before p k) (slice_index p k) (slice_index p j) →
    g.edge (slice_index p k) (slice_index p j) ≡ true

-- there is no fill: the entries are as many as the edges, and each of them is an edge
pub record HasNoFill (g : Graph) (dense : ℕ → Bool) (s : State) (p : List ℕ) : Type 0 where
  pub count : figure entries g dense s ≡ edge_count g
  pub entry : EntriesAreEdges g p

-- the entries and the greatest front are at most those of a full matrix
pub record FiguresAreSmall (g : Graph) (dense : ℕ → Bool) (s : State) : Type 0 where
  pub entries_most : figure entries g dense s ≤ g.size * (g.size - 1) / 2
  pub front_most : 0 < g.size → greatest_front g dense s ≤ g.size

-- ---- of all runs

-- exactly the rows of a set are held last
abbrev pub LastRowsAre : Graph → (ℕ → Bool) → State → Type 0
LastRowsAre g dense s = (v : ℕ) → v < g.size → is_last (s.home v) ≡ dense v

-- in each state that steps lead to from a start, the rows held last are those that the start holds last
abbrev pub LastRowsStay : Type 0
LastRowsStay = (g : Graph) (dense : ℕ → Bool) (aggressive : Bool) (first : State) (states : List State) →
    IsGraph g → IsStart g dense first → Steps g aggressive first states → EachState (LastRowsAre g dense) first states

-- P holds of each state that steps lead to from a start
abbrev pub InEachState : (Graph → Bool → State → Type 0) → Type 0
InEachState P = (g : Graph) (dense : ℕ → Bool) (aggressive : Bool) (first : State) (states : List State) →
    IsGraph g → IsStart g dense first → Steps g aggressive first states → EachState (P g aggressive) first states

-- P holds of the last state of each run
abbrev pub AtTheEnd : (Graph → (ℕ → Bool) → State → Type 0) → Type 0
AtTheEnd P = (g : Graph) (dense : ℕ → Bool) (aggressive : Bool) (first : State) (states : List State) →
    IsGraph g → Run g dense aggressive first states → P g dense (last_state first states)

-- P holds of each listing of the last state of each run
abbrev pub OfEachListing : (Graph → (ℕ → Bool) → State → List ℕ → Type 0) → Type 0
OfEachListing P = AtTheEnd (λ g dense s. (p : List ℕ) → IsPostorder g dense s p → P g dense s p)

-- each graph and each set of rows held last have a run
abbrev pub RunsExist : Type 0
RunsExist = (g : Graph) (dense : ℕ → Bool) (aggressive : Bool) → IsGraph g → (first : State) × (states : List State)
    × Run g dense aggressive first states
