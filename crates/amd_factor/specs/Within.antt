-- What `counts_within` and `columns_within` answer, over memory that was taken before.
use Rattle.std.specs.Prelude.{ℕ, ℤ, pos, ◌≡◌, ◌≢◌, ◌<◌, ◌+◌, ◌*◌, List, Option, length, unsigned_abs}
use Rattle.amd_model.specs.Factor.{IsFactor, needed}
use Rattle.amd_model.specs.Figures.{entries}
use Rattle.amd_model.specs.Graph.{Graph}
use Rattle.amd_model.specs.Input.Columns.{IsColumnForm, IsInput}
use Rattle.amd_model.specs.Input.Pattern.{graph_of}
use Rattle.amd_types.specs.Naturals.{naturals}
pub use Rattle.amd_count_laws.specs.Within.{FitsIn}
use Rattle.amd_factor.specs.Counted.{wide_cut}
use Rattle.amd_factor.specs.Orders.{Order, Permutes}
use Rattle.amd_factor.specs.Places.{ArePlaces}
use Rattle.amd_factor.specs.declared.entrance.Unfit.{Unfit}
use Rattle.amd_factor.specs.declared.entrance.Unfit.TheVariants as unfit
use Rattle.amd_factor.specs.declared.refusal.Refusal.{Refusal}
use Rattle.amd_factor.specs.declared.refusal.Refusal.TheVariants.{NotColumnForm, NotPermutation, TooLarge, TooSmall}

-- how many numbers the lists take for a matrix with n rows and that many entries
abbrev pub words : ℕ → ℕ → ℕ
words n entries = 2 * entries + 11 * n + 7

-- the column form is that of the graph of an order, and the list has the place of each of its rows
pub record IsPlaced (o : Order) (n : ℕ) (ap ai : List ℤ) (places : List ℕ) : Type 0 where
  pub form : IsColumnForm (pos n) n ap ai
  pub graph : o.graph ≡ graph_of n ap ai
  pub listed : ArePlaces n o.rows places

-- the column form is that of the graph of an order, whose rows are the numbers of the list
pub record IsPosed (o : Order) (n : ℕ) (ap ai p : List ℤ) : Type 0 where
  pub form : IsColumnForm (pos n) n ap ai
  pub graph : o.graph ≡ graph_of n ap ai
  pub rows : o.rows ≡ naturals p

-- the room is too small: the factor has more entries, and needs that many; cut at the greatest number of 128 bits
pub record IsTooSmall (g : Graph) (p : List ℕ) (room needs : ℕ) : Type 0 where
  pub columns : List (List ℕ)
  pub factor : IsFactor g p columns
  pub more : room < needed entries columns
  pub tells : needs ≡ wide_cut (needed entries columns)

-- why no columns of a matrix with n rows are written in memory that suffices for it
abbrev pub IsUnwritten : ℕ → List ℤ → List ℤ → List ℤ → ℕ → Refusal → Type 0
IsUnwritten n ap ai p room NotColumnForm = ⊥
IsUnwritten n ap ai p room TooLarge = ⊥
IsUnwritten n ap ai p room NotPermutation = (order : List ℕ) → ¬ (Permutes n p order)
IsUnwritten n ap ai p room (TooSmall needs) =
    (order : List ℕ) × Permutes n p order × IsTooSmall (graph_of n ap ai) order room needs

-- there is a place for each of n rows in both lists
abbrev pub HasPlaces : ℤ → List ℕ → List (Option ℕ) → Type 0
HasPlaces n counts parent = (size : ℕ) → pos size ≡ n → (length counts ≡ size) × (length parent ≡ size)

-- there is a parent for each of n rows, and one pointer more
abbrev pub HasPointers : ℤ → List ℕ → List (Option ℕ) → Type 0
HasPointers n ptr parent = (size : ℕ) → pos size ≡ n → (length ptr ≡ size + 1) × (length parent ≡ size)

-- the refusal of a matrix and an order that are not fit for a factor
abbrev pub refusal_of : Unfit → Refusal
refusal_of unfit.NotColumnForm = NotColumnForm
refusal_of unfit.NotPermutation = NotPermutation

-- a refusal of a workspace for so many rows and entries: the first that there is, of `NotColumnForm`, `TooLarge`,
-- `NotPermutation` and `TooSmall`
abbrev pub IsRefusal : ℤ → List ℤ → List ℤ → List ℤ → ℕ → ℕ → ℕ → Refusal → Type 0
IsRefusal n ap ai p rows most room NotColumnForm = (n ≢ pos 0) × (¬ (IsInput n n ap ai))
IsRefusal n ap ai p rows most room TooLarge = (n ≢ pos 0) × IsInput n n ap ai × (¬ (FitsIn n ap rows most))
IsRefusal n ap ai p rows most room NotPermutation = (n ≢ pos 0 → IsInput n n ap ai) × FitsIn n ap rows most ×
    ((order : List ℕ) → ¬ (Permutes (unsigned_abs n) p order))
IsRefusal n ap ai p rows most room (TooSmall needs) = (n ≢ pos 0 → IsInput n n ap ai) × FitsIn n ap rows most ×
    (order : List ℕ) × Permutes (unsigned_abs n) p order × IsTooSmall (graph_of (unsigned_abs n) ap ai) order room needs

-- and one of a call that writes no entries
abbrev pub IsCountsRefusal : ℤ → List ℤ → List ℤ → List ℤ → ℕ → ℕ → Refusal → Type 0
IsCountsRefusal n ap ai p rows most NotColumnForm = IsRefusal n ap ai p rows most 0 NotColumnForm
IsCountsRefusal n ap ai p rows most TooLarge = IsRefusal n ap ai p rows most 0 TooLarge
IsCountsRefusal n ap ai p rows most NotPermutation = IsRefusal n ap ai p rows most 0 NotPermutation
IsCountsRefusal n ap ai p rows most (TooSmall needs) = ⊥
