-- What the calls for the degrees and for the row form of a matrix leave in a caller's arrays, and which number they
-- answer.
use Rattle.std.specs.Prelude.{◌≡◌, ◌+◌, ◌<◌, ◌++◌, ℕ, ℤ, pos, List, Result, Ok, Err, drop, length, map}
use Rattle.std.specs.Prelude.{unsigned_abs}
use Rattle.amd_model.specs.Input.Columns.{IsInput, IsSortedInput}
use Rattle.amd_input.specs.Degrees.{AreDegrees}
use Rattle.amd_input.specs.PatternFigures.{HasPatternFigures}
use Rattle.amd_input.specs.Transposes.{IsCleanTranspose}
use Rattle.amd_factor.specs.declared.factor.Fault.{Fault}
use Rattle.amd_factor.specs.declared.factor.Fault.TheVariants.{NotColumnForm, NotPermutation, RoomTooSmall}
use Rattle.amd_factor.specs.declared.factor.Fault.TheVariants.{OutOfMemory}
use Rattle.amd_types.specs.Records.{fresh_info}
use Rattle.amd_types.specs.declared.amd.Info.{Info}
use Rattle.amd_calls.specs.Columns.{number_of_end}
use Rattle.amd_calls.specs.Numbers.{statistics_of}
use Rattle.amd_calls.specs.declared.records.Statistics.{Statistics}

-- ---- the degrees

-- what stands in a caller's array of degrees, and in the record of statistics
pub record Counted : Type 0 where
  pub degrees : List ℤ
  pub statistics : Statistics

abbrev pub counted : List ℤ → Statistics → Counted
counted degrees statistics = record { degrees = degrees; statistics = statistics }

-- an array has n places
abbrev pub HasRowPlaces : ℤ → List ℤ → Type 0
HasRowPlaces n xs = n ≡ pos (length xs)

-- a column form with n rows and columns, each strictly rising
abbrev pub IsSortedForm : ℤ → List ℤ → List ℤ → Type 0
IsSortedForm n ap ai = IsInput n n ap ai × IsSortedInput n ap ai

-- the record of n rows in which the figures of a pattern are written, and nothing else
abbrev pub TellsPattern : ℕ → List ℤ → List ℤ → Info → Type 0
TellsPattern n ap ai info = HasPatternFigures n ap ai info × (info ≡ record (fresh_info n) {
  n = info.n;
  nz = info.nz;
  symmetry = info.symmetry;
  nz_diag = info.nz_diag;
  nz_a_plus_at = info.nz_a_plus_at;
})

-- of a column form with sorted columns the degrees of the n rows stand in the array, and the figures of the pattern in the
-- statistics
pub record HoldsDegrees (n : ℤ) (ap ai : List ℤ) (m : Counted) : Type 0 where
  pub form : IsSortedForm n ap ai
  pub places : HasRowPlaces n m.degrees
  pub total : ℕ
  pub degrees : List ℕ
  pub info : Info
  pub are : AreDegrees (unsigned_abs n) ap ai total degrees
  pub tells : TellsPattern (unsigned_abs n) ap ai info
  pub written : m.degrees ≡ map pos degrees
  pub told : m.statistics ≡ statistics_of info

-- a fault: `NotColumnForm` exactly where the array has not n places, or the input is no column form with sorted columns
abbrev pub RefusesDegrees : ℤ → List ℤ → List ℤ → Counted → Fault → Type 0
RefusesDegrees n ap ai m NotColumnForm = HasRowPlaces n m.degrees → ¬ (IsSortedForm n ap ai)
RefusesDegrees n ap ai m OutOfMemory = HasRowPlaces n m.degrees × IsSortedForm n ap ai
RefusesDegrees n ap ai m NotPermutation = ⊥
RefusesDegrees n ap ai m RoomTooSmall = ⊥

-- what a call with this outcome leaves: the degrees, or after a fault all as it was
abbrev pub LeavesDegrees : ℤ → List ℤ → List ℤ → Counted → Counted → Result (Unit {0}) Fault → Type 0
LeavesDegrees n ap ai old new (Ok _) = HoldsDegrees n ap ai new
LeavesDegrees n ap ai old new (Err e) = RefusesDegrees n ap ai old e × (new ≡ old)

-- the number is that of an outcome, and the call leaves what this says
pub record DegreesInto (n : ℤ) (ap ai : List ℤ) (old new : Counted) (number : ℤ) : Type 0 where
  pub outcome : Result (Unit {0}) Fault
  pub answer : number ≡ number_of_end outcome
  pub left : LeavesDegrees n ap ai old new outcome

-- ---- the row form

-- what stands in a caller's arrays for the pointers and the indices
pub record RowArrays : Type 0 where
  pub pointers : List ℤ
  pub indices : List ℤ

abbrev pub row_arrays : List ℤ → List ℤ → RowArrays
row_arrays pointers indices = record { pointers = pointers; indices = indices }

-- the array of the pointers has n + 1 places
abbrev pub HasPointerPlaces : ℤ → List ℤ → Type 0
HasPointerPlaces n pointers = (k : ℕ) × (n ≡ pos k) × (length pointers ≡ k + 1)

-- the arrays, of which that of the pointers has n + 1 places, hold the row form of a column form; what stands behind the
-- indices stayed
pub record HoldsRowForm (n : ℤ) (ap ai : List ℤ) (old new : RowArrays) : Type 0 where
  pub form : IsInput n n ap ai
  pub places : HasPointerPlaces n old.pointers
  pub indices : List ℤ
  pub clean : IsCleanTranspose n ap ai new.pointers indices
  pub written : new.indices ≡ indices ++ drop (length indices) old.indices

-- the row form has more than `room` indices
pub record PassesRowRoom (n : ℤ) (ap ai : List ℤ) (room : ℕ) : Type 0 where
  pub pointers : List ℤ
  pub indices : List ℤ
  pub clean : IsCleanTranspose n ap ai pointers indices
  pub passes : room < length indices

-- a fault: `NotColumnForm` exactly where the array of the pointers has not n + 1 places, or the input is no column form;
-- `RoomTooSmall` only where the row form has more indices than the array for them has places
abbrev pub RefusesRowForm : ℤ → List ℤ → List ℤ → RowArrays → Fault → Type 0
RefusesRowForm n ap ai m NotColumnForm = HasPointerPlaces n m.pointers → ¬ (IsInput n n ap ai)
RefusesRowForm n ap ai m OutOfMemory = HasPointerPlaces n m.pointers × IsInput n n ap ai
RefusesRowForm n ap ai m RoomTooSmall =
    HasPointerPlaces n m.pointers × IsInput n n ap ai × PassesRowRoom n ap ai (length m.indices)
RefusesRowForm n ap ai m NotPermutation = ⊥

-- what a call with this outcome leaves: the row form, or after a fault all as it was
abbrev pub LeavesRowForm : ℤ → List ℤ → List ℤ → RowArrays → RowArrays → Result (Unit {0}) Fault → Type 0
LeavesRowForm n ap ai old new (Ok _) = HoldsRowForm n ap ai old new
LeavesRowForm n ap ai old new (Err e) = RefusesRowForm n ap ai old e × (new ≡ old)

-- the number is that of an outcome, and the call leaves what this says
pub record RowFormInto (n : ℤ) (ap ai : List ℤ) (old new : RowArrays) (number : ℤ) : Type 0 where
  pub outcome : Result (Unit {0}) Fault
  pub answer : number ≡ number_of_end outcome
  pub left : LeavesRowForm n ap ai old new outcome
