-- What a status says of an input.
use Rattle.std.specs.Prelude.{ℤ, List}
use Rattle.amd_model.specs.Input.Columns.{IsInput, IsSortedInput, IsJumbledInput}
use Rattle.amd_types.specs.declared.amd.Status.{Status}
use Rattle.amd_types.specs.declared.amd.Status.TheVariants.{OK, Invalid, OkButJumbled, OutOfMemory}

-- the status of an input with n columns and m rows
abbrev pub IsStatusOf : ℤ → ℤ → List ℤ → List ℤ → Status → Type 0
IsStatusOf m n ap ai OK = IsInput m n ap ai × IsSortedInput n ap ai
IsStatusOf m n ap ai Invalid = ¬ (IsInput m n ap ai)
IsStatusOf m n ap ai OkButJumbled = IsInput m n ap ai × IsJumbledInput n ap ai
IsStatusOf m n ap ai OutOfMemory = ⊥
