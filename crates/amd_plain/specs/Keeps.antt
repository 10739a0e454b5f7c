-- A work record keeps the lists of an elimination, and stands for a state of it.
use Rattle.std.specs.Prelude.{ℕ, Bool, false, Option, List, [], ◌≡◌, ◌==◌, ◌||◌, length, filter}
use Rattle.amd_model.specs.Graph.{Graph}
use Rattle.amd_model.specs.State.{State, Home, live}
use Rattle.amd_model.specs.Step.{StepAt}
use Rattle.amd_model.specs.Run.{last_state}
use Rattle.amd_model.specs.Ordering.{Follows}
use Rattle.amd_model.specs.Quotient.{QuotientGraph, has, is_empty, pivot, next}
use Rattle.amd_round_laws.specs.Keeps as views
use Rattle.amd_plain.specs.Views.{mark_at, some_at, list_at, plain_view, ListsBelow, Clear}
use Rattle.amd_plain.specs.ListsByBound.{live_in, last_places}
use Rattle.amd_plain.specs.declared.work.PlainLists.{PlainLists}
use Rattle.amd_plain.specs.declared.work.PlainWork.{PlainWork}
use Rattle.amd_plain.specs.declared.work.Scratch.{Scratch}

-- the marks are clear and the groups are empty, and there is room for each row
pub record IsIdle {A : Type 0} (n : ℕ) (s : Scratch A) : Type 0 where
  pub rows : (length s.rows.items ≡ n) × Clear s.rows.items
  pub elements : (length s.elements.items ≡ n) × Clear s.elements.items
  pub groups : (length s.groups.items ≡ n) × ((b : ℕ) → list_at s.groups.items b ≡ [])
  pub beyond : length s.beyond.items ≡ n
  pub into : length s.into.items ≡ n

-- the same, but a pivot and the classes of its front are marked in the rows, and nothing else
pub record IsMarked {A : Type 0} (n pivot : ℕ) (front : List ℕ) (s : Scratch A) : Type 0 where
  pub rows : (length s.rows.items ≡ n) × ((j : ℕ) → mark_at s.rows.items j ≡ (j == pivot || has front j))
  pub elements : (length s.elements.items ≡ n) × Clear s.elements.items
  pub groups : (length s.groups.items ≡ n) × ((b : ℕ) → list_at s.groups.items b ≡ [])
  pub beyond : length s.beyond.items ≡ n
  pub into : length s.into.items ≡ n

-- there is a list of each kind for each of n rows, and each names rows alone
pub record AreSized {A : Type 0} (n : ℕ) (lists : PlainLists A) : Type 0 where
  pub variables : ListsBelow n lists.variables.items
  pub elements : ListsBelow n lists.elements.items
  pub members : ListsBelow n lists.members.items

-- there is a place for each of n rows, and each list names rows alone
pub record IsPlainSized {A : Type 0} (n : ℕ) (w : PlainWork A) : Type 0 where
  pub variables : ListsBelow n w.lists.variables.items
  pub elements : ListsBelow n w.lists.elements.items
  pub members : ListsBelow n w.lists.members.items
  pub placed : ListsBelow n w.placed.items
  pub size : length w.size.items ≡ n
  pub bound : length w.bound.items ≡ n
  pub link : length w.link.items ≡ n
  pub parent : length w.parent.items ≡ n
  pub block : length w.block.items ≡ n
  pub front : length w.front.items ≡ n
  pub idle : IsIdle n w.scratch

-- following the links comes to an end, and leads to where the rows are
abbrev pub PlainLinksLead : List (Option ℕ) → (ℕ → Home) → Type 0
PlainLinksLead links home = views.LinksLead (length links) (some_at links) home

-- the record keeps the lists t, which stand for the sound state s of an elimination of the graph
pub record PlainStands {A : Type 0} (g : Graph) (dense : ℕ → Bool) (w : PlainWork A) (t : QuotientGraph) (s : State) : Type 0
  where
    pub view : views.ViewStands g dense (plain_view w) t s
    pub sized : IsPlainSized g.size w
    -- the classes of each bound, each at its last place
    pub placed : (b : ℕ) → last_places (live_in w.size.items w.bound.items b (list_at w.placed.items b)) ≡ filter
        (λ i. t.bound i == b) t.placed

-- whatever lists and state the old record stands for, the new one stands for the lists of the next round, and for a
-- state that the step with the pivot of the rules leads to
abbrev pub IsPlainRound : {A : Type 0} → Bool → PlainWork A → PlainWork A → Type 0
IsPlainRound aggressive old new = (g : Graph) (dense : ℕ → Bool) (t : QuotientGraph) (s : State) → PlainStands g dense old t s →
    (is_empty t.placed ≡ false) × ((u : State) × StepAt g aggressive (pivot t.bound t.placed) s u
    × PlainStands g dense new (next aggressive t) u)

-- whatever lists and state the old record stands for, the new one stands for lists and a state some rounds later
abbrev pub ArePlainRounds : {A : Type 0} → Bool → PlainWork A → PlainWork A → Type 0
ArePlainRounds aggressive old new = (g : Graph) (dense : ℕ → Bool) (t : QuotientGraph) (s : State) → PlainStands g dense old t s →
    (u : QuotientGraph) × ((states : List State) × Follows g aggressive t s states u ×
    PlainStands g dense new u (last_state s states))

-- no row is live in any state that the record stands for
abbrev pub NoPlainRowIsLive : {A : Type 0} → PlainWork A → Type 0
NoPlainRowIsLive w = (g : Graph) (dense : ℕ → Bool) (t : QuotientGraph) (s : State) → PlainStands g dense w t s → (v : ℕ) →
    live s v ≡ false
