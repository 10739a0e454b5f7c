-- What the calls for the supernodes of a factor leave in a caller's arrays and record, and which number they answer.
use Rattle.std.specs.Prelude.{◌≡◌, ◌≢◌, ◌<◌, ◌+◌, ◌⊎◌, ℕ, ℤ, pos, Option, Result, Ok, Err, List, ◌++◌, map, drop}
use Rattle.std.specs.Prelude.{length}
use Rattle.amd_factor.specs.Counted.{IsCountsFault}
use Rattle.amd_factor.specs.SupernodeLaws.{AreSizesOf}
use Rattle.amd_factor.specs.Supernodes.{IsSupernodesOf}
use Rattle.amd_factor.specs.declared.factor.Fault.{Fault}
use Rattle.amd_factor.specs.declared.factor.Fault.TheVariants.{NotColumnForm, NotPermutation, RoomTooSmall}
use Rattle.amd_factor.specs.declared.factor.Fault.TheVariants.{OutOfMemory}
use Rattle.amd_calls.specs.Columns.{number_of_end, parent_number}
use Rattle.amd_calls.specs.declared.records.SupernodeSizes.{SupernodeSizes}

-- what stands in a caller's arrays for the beginnings, the pointers, the rows and the parents
pub record Blocks : Type 0 where
  pub first : List ℤ
  pub ptr : List ℤ
  pub rows : List ℤ
  pub parent : List ℤ

abbrev pub blocks : List ℤ → List ℤ → List ℤ → List ℤ → Blocks
blocks first ptr rows parent = record { first = first; ptr = ptr; rows = rows; parent = parent }

-- the arrays of the beginnings and of the pointers have one place more than that of the parents
abbrev pub HasBlockPlaces : List ℤ → List ℤ → List ℤ → Type 0
HasBlockPlaces first ptr parent = (length first ≡ length parent + 1) × (length ptr ≡ length parent + 1)

-- the arrays, which have their places, hold the supernodes of the factor under the order p; what stands behind them stayed
pub record HoldsSupernodes (n : ℤ) (ap ai p : List ℤ) (old new : Blocks) : Type 0 where
  pub places : HasBlockPlaces old.first old.ptr old.parent
  pub first : List ℕ
  pub ptr : List ℕ
  pub rows : List ℕ
  pub parent : List (Option ℕ)
  pub supernodes : IsSupernodesOf n ap ai p first ptr rows parent
  pub begin : new.first ≡ map pos first ++ drop (length first) old.first
  pub pointers : new.ptr ≡ map pos ptr ++ drop (length ptr) old.ptr
  pub entries : new.rows ≡ map pos rows ++ drop (length rows) old.rows
  pub parents : new.parent ≡ map parent_number parent ++ drop (length parent) old.parent

-- there are more supernodes, or more rows below their blocks, than the arrays have places for
pub record PassesPlaces (n : ℤ) (ap ai p : List ℤ) (a : Blocks) : Type 0 where
  pub first : List ℕ
  pub ptr : List ℕ
  pub rows : List ℕ
  pub parent : List (Option ℕ)
  pub supernodes : IsSupernodesOf n ap ai p first ptr rows parent
  pub more : (length a.parent < length parent) ⊎ (length a.rows < length rows)

-- a fault of `supernodes`, or too few places
abbrev pub IsPlacesFault : ℤ → List ℤ → List ℤ → List ℤ → Blocks → Fault → Type 0
IsPlacesFault n ap ai p a NotColumnForm = IsCountsFault n ap ai p NotColumnForm
IsPlacesFault n ap ai p a NotPermutation = IsCountsFault n ap ai p NotPermutation
IsPlacesFault n ap ai p a RoomTooSmall = PassesPlaces n ap ai p a
IsPlacesFault n ap ai p a OutOfMemory = IsCountsFault n ap ai p OutOfMemory

-- a fault: such a one, or `NotColumnForm` where the arrays have not one place more than that of the parents
abbrev pub RefusesSupernodes : ℤ → List ℤ → List ℤ → List ℤ → Blocks → Fault → Type 0
RefusesSupernodes n ap ai p a e =
    (HasBlockPlaces a.first a.ptr a.parent → IsPlacesFault n ap ai p a e) ×
    (e ≢ NotColumnForm → HasBlockPlaces a.first a.ptr a.parent)

-- what a call with this outcome leaves: the supernodes, or after a fault all as it was
abbrev pub LeavesSupernodes : ℤ → List ℤ → List ℤ → List ℤ → Blocks → Blocks → Result (Unit {0}) Fault → Type 0
LeavesSupernodes n ap ai p old new (Ok _) = HoldsSupernodes n ap ai p old new
LeavesSupernodes n ap ai p old new (Err e) = RefusesSupernodes n ap ai p old e × (new ≡ old)

-- the number is that of an outcome, and the call leaves what this says
pub record SupernodesInto (n : ℤ) (ap ai p : List ℤ) (old new : Blocks) (number : ℤ) : Type 0 where
  pub outcome : Result (Unit {0}) Fault
  pub answer : number ≡ number_of_end outcome
  pub left : LeavesSupernodes n ap ai p old new outcome

-- what a call with this outcome tells of the sizes: them where the supernodes are written or have no room, and else
-- what was there
abbrev pub TellsSizes : ℤ → List ℤ → List ℤ → List ℤ → SupernodeSizes → SupernodeSizes → Result (Unit {0}) Fault → Type 0
TellsSizes n ap ai p old new (Ok _) = AreSizesOf n ap ai p new.supernodes new.rows
TellsSizes n ap ai p old new (Err RoomTooSmall) = AreSizesOf n ap ai p new.supernodes new.rows
TellsSizes n ap ai p old new (Err NotColumnForm) = new ≡ old
TellsSizes n ap ai p old new (Err NotPermutation) = new ≡ old
TellsSizes n ap ai p old new (Err OutOfMemory) = new ≡ old

-- the number is that of an outcome, and the call leaves and tells what these say
pub record SupernodesAndSizes (n : ℤ) (ap ai p : List ℤ) (old new : Blocks) (before after : SupernodeSizes) (number : ℤ) : Type 0
  where
    pub outcome : Result (Unit {0}) Fault
    pub answer : number ≡ number_of_end outcome
    pub left : LeavesSupernodes n ap ai p old new outcome
    pub told : TellsSizes n ap ai p before after outcome

-- what a call for the sizes leaves with this outcome: them, or after a fault all as it was
abbrev pub LeavesSizes : ℤ → List ℤ → List ℤ → List ℤ → SupernodeSizes → SupernodeSizes → Result (Unit {0}) Fault → Type 0
LeavesSizes n ap ai p old new (Ok _) = AreSizesOf n ap ai p new.supernodes new.rows
LeavesSizes n ap ai p old new (Err e) = IsCountsFault n ap ai p e × (new ≡ old)

-- the number is that of an outcome, and the call leaves what this says
pub record SizesInto (n : ℤ) (ap ai p : List ℤ) (old new : SupernodeSizes) (number : ℤ) : Type 0 where
  pub outcome : Result (Unit {0}) Fault
  pub answer : number ≡ number_of_end outcome
  pub left : LeavesSizes n ap ai p old new outcome
