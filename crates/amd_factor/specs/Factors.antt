-- What `columns` and `columns_into` answer.
use Rattle.std.specs.Prelude.{ℕ, ℤ, pos, ◌≡◌, ◌≢◌, ◌++◌, List, Option, drop, length, map, unsigned_abs}
use Rattle.amd_model.specs.Input.Columns.{IsInput}
use Rattle.amd_model.specs.Input.Pattern.{graph_of}
use Rattle.amd_factor.specs.Columns.{HoldFactor, PassesRoom}
use Rattle.amd_factor.specs.Orders.{Permutes}
use Rattle.amd_factor.specs.declared.factor.Fault.{Fault}
use Rattle.amd_factor.specs.declared.factor.Fault.TheVariants.{NotColumnForm, NotPermutation, RoomTooSmall}
use Rattle.amd_factor.specs.declared.factor.Fault.TheVariants.{OutOfMemory}

-- the vectors hold the factor of a matrix with n rows under the order p, which lists each row once; where n is not 0
-- the matrix is a column form
pub record IsFactorOf (n : ℤ) (ap ai p : List ℤ) (ptr rows : List ℕ) (parent : List (Option ℕ)) : Type 0 where
  pub form : n ≢ pos 0 → IsInput n n ap ai
  pub order : List ℕ
  pub permutes : Permutes (unsigned_abs n) p order
  pub holds : HoldFactor (graph_of (unsigned_abs n) ap ai) order ptr rows parent

-- the numbers begin with the entries of the factor, and behind them stand the old ones
pub record WritesFactor (n : ℤ) (ap ai p old new : List ℤ) (ptr : List ℕ) (parent : List (Option ℕ)) : Type 0 where
  pub entries : List ℕ
  pub factor : IsFactorOf n ap ai p ptr entries parent
  pub written : new ≡ map pos entries ++ drop (length entries) old

-- a fault of `columns`: the first that there is, in the order of the variants, but for want of memory, which may come
-- before the two in the middle are decided
abbrev pub IsFault : ℤ → List ℤ → List ℤ → List ℤ → ℕ → Fault → Type 0
IsFault n ap ai p room NotColumnForm = (n ≢ pos 0) × (¬ (IsInput n n ap ai))
IsFault n ap ai p room NotPermutation = (n ≢ pos 0 → IsInput n n ap ai) ×
    ((order : List ℕ) → ¬ (Permutes (unsigned_abs n) p order))
IsFault n ap ai p room RoomTooSmall =
    (n ≢ pos 0 → IsInput n n ap ai) × (order : List ℕ) × Permutes (unsigned_abs n) p order ×
    PassesRoom (graph_of (unsigned_abs n) ap ai) order room
IsFault n ap ai p room OutOfMemory = n ≢ pos 0 → IsInput n n ap ai
