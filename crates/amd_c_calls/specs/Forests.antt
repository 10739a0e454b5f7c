-- What the calls for the postorder of a forest leave in a caller's array, and which number they answer; and what their
-- test of the forest looks at.
use Rattle.std.specs.Prelude.{◌≡◌, ◌≢◌, ◌<◌, ◌≤ℤ◌, ◌⊎◌, ℕ, ℤ, pos, negsuc, true, Option, None, Some, List, cond}
use Rattle.std.specs.Prelude.{length, slice_index, slice_index_or, unsigned_abs}
use Rattle.amd_model.specs.Input.Columns.{at}
use Rattle.amd_postorder.specs.Trees.{IsElementForest, IsPostorderOf, is_tree_element, tree_of}
use Rattle.amd_types.specs.Links.{named}
use Rattle.amd_types.specs.declared.amd.Status.{Status}
use Rattle.amd_types.specs.declared.amd.Status.TheVariants.{OK, Invalid, OkButJumbled, OutOfMemory}
use Rattle.amd_calls.specs.Numbers.{number_of}

-- ---- the test

-- if place e holds an element, it has a size, and as parent an element or -1
abbrev pub IsSoundForest : List ℤ → List ℤ → List ℤ → ℕ → Type 0
IsSoundForest parent nv f_size e = is_tree_element (length parent) nv e ≡ true →
    (pos 0 ≤ℤ at f_size e) × ((at parent e ≡ negsuc 0) ⊎
    ((p : ℕ) × (at parent e ≡ pos p) × (is_tree_element (length parent) nv p ≡ true)))

-- the place above place e, if there is one
abbrev pub above_at : List (Option ℕ) → ℕ → Option ℕ
above_at above e = slice_index_or above e None

-- the parent of the element at place e, if there are both
abbrev pub parent_in : List ℤ → List ℤ → ℕ → Option ℕ
parent_in parent nv e = cond (is_tree_element (length parent) nv e) (named (at parent e)) None

-- the place above each place is that of its parent
pub record AreParents (parent nv : List ℤ) (above : List (Option ℕ)) : Type 0 where
  pub room : length above ≡ length parent
  pub each : (e : ℕ) → e < length parent → above_at above e ≡ parent_in parent nv e

-- each place that stands above another one is a place of the list
abbrev pub StaysInside : List (Option ℕ) → Type 0
StaysInside above = (e p : ℕ) → above_at above e ≡ Some p → p < length above

-- a rank rises from each place to the one above it, so that no place is above itself
pub record HasNoCycle (above : List (Option ℕ)) : Type 0 where
  pub rank : ℕ → ℕ
  pub rises : (e p : ℕ) → above_at above e ≡ Some p → rank e < rank p

-- the marks of the walks before `walk`: from each marked place a rank rises to the one above it, which has a mark too
pub record MarksRise (above : List (Option ℕ)) (walk : ℕ) (marks : List ℕ) : Type 0 where
  pub room : length marks ≡ length above
  pub before : (e : ℕ) → slice_index marks e < walk
  pub rank : ℕ → ℕ
  pub rises : (e p : ℕ) → slice_index marks e ≢ 0 → above_at above e ≡ Some p →
      (slice_index marks p ≢ 0) × (rank e < rank p)

-- ---- what a call leaves

-- each of four arrays has n places
abbrev pub HasForestPlaces : ℤ → List ℤ → List ℤ → List ℤ → List ℤ → Type 0
HasForestPlaces n parent nv f_size order = (n ≡ pos (length parent)) × (n ≡ pos (length nv)) ×
    (n ≡ pos (length f_size)) × (n ≡ pos (length order))

-- what a call with this status leaves in the array: the postorder of a forest of n places, or after a refusal what it
-- was; `Invalid` only where an array has not n places, or the lists are no forest; `OutOfMemory` only where each has
abbrev pub LeavesPostorder : ℤ → List ℤ → List ℤ → List ℤ → List ℤ → List ℤ → Status → Type 0
LeavesPostorder n parent nv f_size old new OK = HasForestPlaces n parent nv f_size old ×
    IsElementForest (unsigned_abs n) parent nv f_size × IsPostorderOf (tree_of (unsigned_abs n) parent nv f_size) new
LeavesPostorder n parent nv f_size old new Invalid =
    (HasForestPlaces n parent nv f_size old → ¬ (IsElementForest (unsigned_abs n) parent nv f_size)) × (new ≡ old)
LeavesPostorder n parent nv f_size old new OutOfMemory = HasForestPlaces n parent nv f_size old × (new ≡ old)
LeavesPostorder n parent nv f_size old new OkButJumbled = ⊥

-- the number is that of a status, and the call leaves what this says
pub record PostorderInto (n : ℤ) (parent nv f_size old new : List ℤ) (number : ℤ) : Type 0 where
  pub status : Status
  pub answer : number ≡ number_of status
  pub left : LeavesPostorder n parent nv f_size old new status
