-- The faults of `analyze`, `analyze_counts` and their kin, which hold rows last.
use Rattle.std.specs.Prelude.{ℤ, pos, ◌≢◌, Bool, List, Option, None}
use Rattle.amd.specs.Answers.{IsInputHolding}
use Rattle.amd_factor.specs.declared.factor.Fault.{Fault}
use Rattle.amd_factor.specs.declared.factor.Fault.TheVariants.{NotColumnForm, NotPermutation, RoomTooSmall}
use Rattle.amd_factor.specs.declared.factor.Fault.TheVariants.{OutOfMemory}

-- a fault of an analysis: `NotColumnForm` exactly where n is not 0 and the input is no column form, or has not a mark
-- for each row where it has marks; `OutOfMemory` only for another input
abbrev pub IsFaultHolding : Option (List Bool) → ℤ → List ℤ → List ℤ → Fault → Type 0
IsFaultHolding hold n ap ai NotColumnForm = (n ≢ pos 0) × (¬ (IsInputHolding hold n ap ai))
IsFaultHolding hold n ap ai NotPermutation = ⊥
IsFaultHolding hold n ap ai RoomTooSmall = ⊥
IsFaultHolding hold n ap ai OutOfMemory = n ≢ pos 0 → IsInputHolding hold n ap ai

-- a fault where no row is marked
abbrev pub IsAnalysisFault : ℤ → List ℤ → List ℤ → Fault → Type 0
IsAnalysisFault n ap ai e = IsFaultHolding None n ap ai e
