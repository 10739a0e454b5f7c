-- The record of the plain engine before its first round.
use Rattle.std.specs.Prelude.{ℕ, ℤ, Bool, Option, List, Vec, ◌≡◌, ◌<◌, ◌||◌, nat_lt, length}
use Rattle.amd_model.specs.Input.Pattern.{is_pair}
use Rattle.amd_model.specs.Input.Held.{is_marked}
use Rattle.amd_model.specs.Quotient.{starting_list}
use Rattle.amd_plain.specs.Views.{mark_at, num, list_at}
use Rattle.amd_plain.specs.Starts.{StandsAtStart}
use Rattle.amd_plain.specs.declared.work.PlainWork.{PlainWork}

-- the record stands at the start of an elimination of a matrix: each row has its list of neighbours, and the marked rows
-- and those of a degree above the threshold are held last
pub record IsPlainBegun {A : Type 0} (ap ai : List ℤ) (len : List ℕ) (hold : Option (List Bool)) (threshold : ℕ)
    (w : PlainWork A) : Type 0 where
  pub rows : List (Vec ℕ A)
  pub size : length rows ≡ length len
  pub lists : (i : ℕ) → i < length len → list_at rows i ≡ starting_list (length len) (is_pair (length len) ap ai) i
  pub marks : List Bool
  pub marked : (i : ℕ) → i < length len → mark_at marks i ≡ (is_marked hold i || nat_lt threshold (num len i))
  pub begins : StandsAtStart rows len (mark_at marks) w
