-- What a matrix and an order lack that are not fit for a factor.
use Rattle.std.specs.Prelude.{ℕ, ℤ, pos, ◌≡◌, ◌≢◌, List, unsigned_abs}
use Rattle.amd_model.specs.Input.Columns.{IsInput}
use Rattle.amd_factor.specs.Orders.{Permutes}
use Rattle.amd_factor.specs.declared.factor.Fault.{Fault}
use Rattle.amd_factor.specs.declared.factor.Fault.TheVariants as fault
use Rattle.amd_factor.specs.declared.entrance.Unfit.{Unfit}
use Rattle.amd_factor.specs.declared.entrance.Unfit.TheVariants.{NotColumnForm, NotPermutation}

-- the first of the two that there is; the order is looked at only where there are no rows
abbrev pub IsUnfit : ℤ → List ℤ → List ℤ → List ℤ → Unfit → Type 0
IsUnfit n ap ai p NotColumnForm = (n ≢ pos 0) × (¬ (IsInput n n ap ai))
IsUnfit n ap ai p NotPermutation = (n ≡ pos 0) × ((order : List ℕ) → ¬ (Permutes (unsigned_abs n) p order))

-- the fault that this is
abbrev pub fault_of : Unfit → Fault
fault_of NotColumnForm = fault.NotColumnForm
fault_of NotPermutation = fault.NotPermutation
