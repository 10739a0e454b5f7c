-- How many bytes the calls for the counts and the columns of a factor take of a block that the caller lends, and what
-- they answer there.
use Rattle.std.specs.Prelude.{◌≡◌, ◌≢◌, ◌≤◌, ◌+◌, ◌*◌, ℕ, ℤ, pos, List, Result, Ok, Err, length, min, slice_index}
use Rattle.std.specs.Prelude.{unsigned_abs}
use Rattle.amd_types.specs.Naturals.{naturals}
use Rattle.amd_factor.specs.Blocks.{whole_units}
use Rattle.amd_factor.specs.Factors.{IsFault}
use Rattle.amd_factor.specs.declared.factor.Fault.{Fault}
use Rattle.amd_factor.specs.declared.factor.Fault.TheVariants.{NotColumnForm, NotPermutation, RoomTooSmall}
use Rattle.amd_factor.specs.declared.factor.Fault.TheVariants.{OutOfMemory}
use Rattle.amd_calls.specs.Columns.{Arrays, HasColumnPlaces, HoldsColumns, number_of_end}
use Rattle.amd_calls.specs.Counting.{LeavesCounts, Tallies}

-- 8 bytes for each number, in whole units of 16, and 16 for each link
abbrev pub lists_bytes : ℕ → ℕ → ℕ
lists_bytes numbers links = whole_units (8 * numbers) + 16 * links

-- what the counts take for so many rows and entries, and what the columns do
abbrev pub counts_bytes : ℕ → ℕ → ℕ
counts_bytes rows entries = lists_bytes (2 * entries + 12 * rows + 7) rows

abbrev pub columns_bytes : ℕ → ℕ → ℕ
columns_bytes rows entries = lists_bytes (entries + 5 * rows + 2) (2 * rows)

-- so many bytes are enough for a matrix with n rows and these pointers, of which a call takes that many
abbrev pub Suffice : (ℕ → ℕ → ℕ) → ℤ → List ℤ → ℕ → Type 0
Suffice bytes n ap size = n ≢ pos 0 → bytes (unsigned_abs n) (slice_index (naturals ap) (unsigned_abs n)) ≤ size

-- the bytes suffice, exactly where memory is no reason to refuse a column form
abbrev pub TellsWhether : Type 0 → Result (Unit {0}) Fault → Type 0
TellsWhether suffice (Ok _) = suffice
TellsWhether suffice (Err NotColumnForm) = Unit {0}
TellsWhether suffice (Err OutOfMemory) = ¬ suffice
TellsWhether suffice (Err NotPermutation) = suffice
TellsWhether suffice (Err RoomTooSmall) = suffice

-- the number is that of an outcome of the counts in a block of so many bytes, and the call leaves what this says
pub record CountsWithin (n : ℤ) (ap ai p : List ℤ) (size : ℕ) (old new : Tallies) (number : ℤ) : Type 0 where
  pub outcome : Result (Unit {0}) Fault
  pub answer : number ≡ number_of_end outcome
  pub left : LeavesCounts n ap ai p old new outcome
  pub block : TellsWhether (Suffice counts_bytes n ap size) outcome

-- a fault of the columns: that of the factor, where the room is the places for entries, or the greatest number of the
-- type if that is less; `NotColumnForm` also where an array has not its places
abbrev pub RefusesWithin : ℕ → ℤ → List ℤ → List ℤ → List ℤ → Arrays → Fault → Type 0
RefusesWithin most n ap ai p a e =
    (HasColumnPlaces n a.ptr a.parent → IsFault n ap ai p (min (length a.rows) most) e) ×
    (e ≢ NotColumnForm → HasColumnPlaces n a.ptr a.parent)

-- after a fault the arrays are as they were, but that some entries may stand where there is no room for all
pub record KeepsWithin (old new : Arrays) (e : Fault) : Type 0 where
  pub pointers : new.ptr ≡ old.ptr
  pub parents : new.parent ≡ old.parent
  pub entries : e ≢ RoomTooSmall → new.rows ≡ old.rows

-- what a call with this outcome leaves: the columns, or what stays after a fault
abbrev pub LeavesWithin : ℕ → ℤ → List ℤ → List ℤ → List ℤ → Arrays → Arrays → Result (Unit {0}) Fault → Type 0
LeavesWithin most n ap ai p old new (Ok _) = HoldsColumns n ap ai p old new
LeavesWithin most n ap ai p old new (Err e) = RefusesWithin most n ap ai p old e × KeepsWithin old new e

-- the number is that of an outcome of the columns in a block of so many bytes, for a type whose greatest number is
-- `most`, and the call leaves what this says
pub record ColumnsWithin (most : ℕ) (n : ℤ) (ap ai p : List ℤ) (size : ℕ) (old new : Arrays) (number : ℤ) : Type 0 where
  pub outcome : Result (Unit {0}) Fault
  pub answer : number ≡ number_of_end outcome
  pub left : LeavesWithin most n ap ai p old new outcome
  pub block : TellsWhether (Suffice columns_bytes n ap size) outcome
