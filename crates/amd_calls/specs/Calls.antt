-- What the calls leave in a caller's arrays and record, and which number they answer.
use Rattle.std.specs.Prelude.{◌≡◌, ℕ, ℤ, pos, Bool, Option, List, length}
use Rattle.amd_types.specs.Statuses.{IsStatusOf}
use Rattle.amd_types.specs.declared.amd.Info.{Info}
use Rattle.amd_types.specs.declared.amd.Status.{Status}
use Rattle.amd_types.specs.declared.amd.Status.TheVariants.{OK, Invalid, OkButJumbled, OutOfMemory}
use Rattle.amd.specs.Answers.{IsOrderingHolding, IsRefusalHolding}
use Rattle.amd.specs.Blocks.{FitsInBlock}
use Rattle.amd_calls.specs.declared.records.Parameters.{Parameters}
use Rattle.amd_calls.specs.declared.records.Statistics.{Statistics}
use Rattle.amd_calls.specs.Numbers.{number_of, statistics_of}

-- what stands in a caller's arrays p and p_inv, and in the record of statistics
pub record Memory : Type 0 where
  pub p : List ℤ
  pub q : List ℤ
  pub statistics : Statistics

abbrev pub memory : List ℤ → List ℤ → Statistics → Memory
memory p q statistics = record { p = p; q = q; statistics = statistics }

-- each of two arrays has n places
abbrev pub HasPlaces : ℤ → List ℤ → List ℤ → Type 0
HasPlaces n p q = (n ≡ pos (length p)) × (n ≡ pos (length q))

-- an ordering with this status stands in the arrays, and what it tells in the statistics
pub record HoldsOrdering (hold : Option (List Bool)) (n : ℤ) (choice : Parameters) (ap ai : List ℤ) (m : Memory)
    (status : Status) : Type 0
  where
    pub info : Info
    pub ordering : IsOrderingHolding hold n choice.dense choice.aggressive ap ai m.p m.q info
    pub told : m.statistics ≡ statistics_of info
    pub status_is : info.status ≡ status

-- a refusal by this status: `Invalid` where an array has not n places, and else where `IsRefusalHolding` says so;
-- `OutOfMemory` only where each array has n places
abbrev pub Refuses : Option (List Bool) → ℤ → List ℤ → List ℤ → Memory → Status → Type 0
Refuses hold n ap ai m Invalid = HasPlaces n m.p m.q → IsRefusalHolding hold n ap ai Invalid
Refuses hold n ap ai m OutOfMemory = HasPlaces n m.p m.q × IsRefusalHolding hold n ap ai OutOfMemory
Refuses hold n ap ai m OK = ⊥
Refuses hold n ap ai m OkButJumbled = ⊥

-- what a call with this status leaves: an ordering, or after a refusal all as it was
abbrev pub Leaves : Option (List Bool) → ℤ → Parameters → List ℤ → List ℤ → Memory → Memory → Status → Type 0
Leaves hold n choice ap ai old new OK = HoldsOrdering hold n choice ap ai new OK
Leaves hold n choice ap ai old new OkButJumbled = HoldsOrdering hold n choice ap ai new OkButJumbled
Leaves hold n choice ap ai old new Invalid = Refuses hold n ap ai old Invalid × (new ≡ old)
Leaves hold n choice ap ai old new OutOfMemory = Refuses hold n ap ai old OutOfMemory × (new ≡ old)

-- the number is that of a status, and the call leaves what this says
pub record OrdersInto (hold : Option (List Bool)) (n : ℤ) (choice : Parameters) (ap ai : List ℤ) (old new : Memory)
    (number : ℤ) : Type 0
  where
    pub status : Status
    pub answer : number ≡ number_of status
    pub left : Leaves hold n choice ap ai old new status

-- a block of so many bytes is enough for the matrix, exactly where it is ordered or the call is not valid
abbrev pub TellsBlock : ℤ → List ℤ → ℕ → Status → Type 0
TellsBlock n ap size OK = FitsInBlock n ap size
TellsBlock n ap size OkButJumbled = FitsInBlock n ap size
TellsBlock n ap size Invalid = Unit {0}
TellsBlock n ap size OutOfMemory = ¬ (FitsInBlock n ap size)

-- the same for a call in a block of so many bytes: for `OutOfMemory` there is no other reason than that it has too few
pub record OrdersWithin (hold : Option (List Bool)) (n : ℤ) (choice : Parameters) (ap ai : List ℤ) (size : ℕ) (old new : Memory)
    (number : ℤ) : Type 0
  where
    pub status : Status
    pub answer : number ≡ number_of status
    pub left : Leaves hold n choice ap ai old new status
    pub block : TellsBlock n ap size status

-- the number is that of the status of an input with n columns and m rows
pub record ClassifiesInput (m n : ℤ) (ap ai : List ℤ) (number : ℤ) : Type 0 where
  pub status : Status
  pub answer : number ≡ number_of status
  pub is_status : IsStatusOf m n ap ai status
