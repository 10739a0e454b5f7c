-- What the calls for the columns of a factor leave in a caller's arrays, and which number they answer.
use Rattle.std.specs.Prelude.{◌≡◌, ◌≢◌, ◌+◌, ℕ, ℤ, pos, negsuc, Option, None, Some, Result, Ok, Err, List, ◌++◌, map}
use Rattle.std.specs.Prelude.{drop, length}
use Rattle.amd_factor.specs.Factors.{IsFactorOf, IsFault}
use Rattle.amd_factor.specs.declared.factor.Fault.{Fault}
use Rattle.amd_factor.specs.declared.factor.Fault.TheVariants.{NotColumnForm, NotPermutation, RoomTooSmall}
use Rattle.amd_factor.specs.declared.factor.Fault.TheVariants.{OutOfMemory}

-- what stands in a caller's arrays for the pointers, the entries and the parents
pub record Arrays : Type 0 where
  pub ptr : List ℤ
  pub rows : List ℤ
  pub parent : List ℤ

abbrev pub arrays : List ℤ → List ℤ → List ℤ → Arrays
arrays ptr rows parent = record { ptr = ptr; rows = rows; parent = parent }

-- the number of an outcome: 0 where the columns were written
abbrev pub number_of_end : Result (Unit {0}) Fault → ℤ
number_of_end (Ok _) = pos 0
number_of_end (Err OutOfMemory) = negsuc 0
number_of_end (Err NotColumnForm) = negsuc 1
number_of_end (Err NotPermutation) = negsuc 2
number_of_end (Err RoomTooSmall) = negsuc 3

-- the number of a parent: -1 for none
abbrev pub parent_number : Option ℕ → ℤ
parent_number None = negsuc 0
parent_number (Some k) = pos k

-- the array of the pointers has n + 1 places, and that of the parents n
abbrev pub HasColumnPlaces : ℤ → List ℤ → List ℤ → Type 0
HasColumnPlaces n ptr parent = (n ≡ pos (length parent)) × (length ptr ≡ length parent + 1)

-- the arrays hold the columns of the factor under the order p; what stands behind the entries stayed
pub record HoldsColumns (n : ℤ) (ap ai p : List ℤ) (old new : Arrays) : Type 0 where
  pub ptr : List ℕ
  pub rows : List ℕ
  pub parent : List (Option ℕ)
  pub factor : IsFactorOf n ap ai p ptr rows parent
  pub pointers : new.ptr ≡ map pos ptr
  pub entries : new.rows ≡ map pos rows ++ drop (length rows) old.rows
  pub parents : new.parent ≡ map parent_number parent

-- a fault: that of the factor with the array of the entries as room, or `NotColumnForm` where an array has not its
-- places
abbrev pub RefusesColumns : ℤ → List ℤ → List ℤ → List ℤ → Arrays → Fault → Type 0
RefusesColumns n ap ai p a e =
    (HasColumnPlaces n a.ptr a.parent → IsFault n ap ai p (length a.rows) e) ×
    (e ≢ NotColumnForm → HasColumnPlaces n a.ptr a.parent)

-- after a fault the arrays are as they were, but that some entries may stand where they pass the room, or where memory
-- or the type has not enough
pub record KeepsArrays (old new : Arrays) (e : Fault) : Type 0 where
  pub pointers : new.ptr ≡ old.ptr
  pub parents : new.parent ≡ old.parent
  pub entries : e ≢ RoomTooSmall → e ≢ OutOfMemory → new.rows ≡ old.rows

-- what a call with this outcome leaves: the columns, or what stays after a fault
abbrev pub LeavesColumns : ℤ → List ℤ → List ℤ → List ℤ → Arrays → Arrays → Result (Unit {0}) Fault → Type 0
LeavesColumns n ap ai p old new (Ok _) = HoldsColumns n ap ai p old new
LeavesColumns n ap ai p old new (Err e) = RefusesColumns n ap ai p old e × KeepsArrays old new e

-- the number is that of an outcome, and the call leaves what this says
pub record ColumnsInto (n : ℤ) (ap ai p : List ℤ) (old new : Arrays) (number : ℤ) : Type 0 where
  pub outcome : Result (Unit {0}) Fault
  pub answer : number ≡ number_of_end outcome
  pub left : LeavesColumns n ap ai p old new outcome
