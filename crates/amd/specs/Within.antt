-- A workspace: memory that is taken once, for all matrices with at most so many rows and entries, and what a call over it
-- answers.
use Rattle.std.specs.Prelude.{◌≡◌, ◌≢◌, ◌≤◌, ◌<◌, ◌+◌, ◌*◌, ◌/◌, ◌^◌, ℕ, ℤ, pos, Bool, true, false, Option, None}
use Rattle.std.specs.Prelude.{Some, List, length, map}
use Rattle.std.specs.Option.{option_copied}
use Rattle.amd_model.specs.Input.Columns.{IsColumnForm, IsSorted}
use Rattle.amd_model.specs.Input.Held.{HasMarks}
use Rattle.amd_model.specs.Input.Pattern.{is_pair}
use Rattle.amd_lists.specs.Sizes.{AreWideEnough}
use Rattle.amd_count_laws.specs.Within.{FitsIn}
use Rattle.amd_input.specs.Degrees.{AreDegrees}
use Rattle.amd_workspace.specs.Lists.{HasRoom}
use Rattle.amd_workspace.specs.declared.lists.Memory.{Memory}
use Rattle.amd.specs.Answers.{IsInputHolding, OrdersMatrix}
use Rattle.amd_types.specs.declared.amd.Info.{Info}
use Rattle.amd_types.specs.declared.amd.Status.{Status}
use Rattle.amd_types.specs.declared.amd.Status.TheVariants.{OK, Invalid, OkButJumbled, OutOfMemory}
use Rattle.amd.specs.declared.refusal.Refusal.{Refusal}
use Rattle.amd.specs.declared.refusal.Refusal.TheVariants as refusal
use Rattle.amd.specs.declared.request.Matrix.{Matrix}
use Rattle.amd.specs.declared.request.Request.{Request}

-- whether a matrix of this status is jumbled, where it is a column form
abbrev pub jumbled_by : Status → Option Bool
jumbled_by OK = Some false
jumbled_by OkButJumbled = Some true
jumbled_by Invalid = None
jumbled_by OutOfMemory = None

-- the pairs that order the starting lists: those of the transpose where the matrix is jumbled
abbrev pub pairs_by : Bool → ℕ → List ℤ → List ℤ → ℕ → ℕ → Bool
pairs_by false n ap ai = is_pair n ap ai
pairs_by true n ap ai = λ i j. is_pair n ap ai j i

-- what each ordering into lists of n and m places is given: a column form with n rows, at least one, that is sorted
-- unless it is told jumbled; a mark for each row where there are marks; and a place for each row in both lists
pub record IsGiven (hold : Option (List Bool)) (jumbled : Bool) (ap ai : List ℤ) (n m : ℕ) : Type 0 where
  pub places : m ≡ n
  pub some : 0 < n
  pub form : IsColumnForm (pos n) n ap ai
  pub sorted : jumbled ≡ false → IsSorted n ap ai
  pub marks : HasMarks hold n

-- this matrix is given, in numbers of these values
abbrev pub IsGivenBy : {I : Type 0} → (I → ℤ) → Matrix I → Request → ℕ → ℕ → Type 0
IsGivenBy value matrix request =
    IsGiven (option_copied request.hold) matrix.jumbled (map value matrix.a_p.now) (map value matrix.a_i.now)

-- it is ordered as it is asked for: n rows, which come in this order p with the inverse q, and the record
abbrev pub OrdersGiven : {I : Type 0} → (I → ℤ) → Matrix I → Request → ℕ → List ℤ → List ℤ → Info → Type 0
OrdersGiven value matrix request n =
    let ap = map value matrix.a_p.now in let ai = map value matrix.a_i.now in
    OrdersMatrix (option_copied request.hold) n request.control.now (pairs_by matrix.jumbled n ap ai) ap ai

-- the degrees of a matrix with n rows are counted: so many words hold its lists, and their sum, with a fifth more and n
-- words, is at most the greatest `isize`
pub record AreCounted (n : ℕ) (ap ai : List ℤ) (words : ℕ) (degrees : List ℕ) : Type 0 where
  pub sum : ℕ
  pub degrees_are : AreDegrees n ap ai sum degrees
  pub held : sum + n ≤ words
  pub few : sum + sum / 5 + n < 2 ^ 63

-- how many words the lists of n rows take for that many entries
abbrev pub list_words : ℕ → ℕ → ℕ
list_words n entries = 2 * entries + n

-- the lists have room for so many rows and entries, in widths that hold their numbers
pub record IsSized {S P U A : Type 0} (word place cell rows entries : ℕ) (m : Memory S P U A)
    (pointer_room column_room : ℕ) : Type 0 where
  pub memory : HasRoom rows (list_words rows entries) m
  pub pointers : rows + 1 ≤ pointer_room
  pub columns : entries ≤ column_room
  pub narrow : AreWideEnough word place cell rows (list_words rows entries)
  pub few : 2 * entries + 2 * entries / 5 + rows < 2 ^ 63

-- a call is valid: n is 0 or the input is a column form, with a mark for each row where there are marks; and there are n
-- places for the permutation and for its inverse
pub record IsCall (hold : Option (List Bool)) (n : ℤ) (ap ai : List ℤ) (p q : List ℤ) : Type 0 where
  pub places : (n ≡ pos (length p)) × (length q ≡ length p)
  pub input : n ≢ pos 0 → IsInputHolding hold n ap ai

-- why a workspace for so many rows and entries orders nothing
abbrev pub IsWithinRefusal : Option (List Bool) → ℤ → List ℤ → List ℤ → List ℤ → List ℤ → ℕ → ℕ → Refusal → Type 0
IsWithinRefusal hold n ap ai p q rows entries refusal.Invalid = ¬ (IsCall hold n ap ai p q)
IsWithinRefusal hold n ap ai p q rows entries refusal.TooLarge = IsCall hold n ap ai p q × (¬ (FitsIn n ap rows entries))

-- why nothing is ordered into a caller's lists: the call is not valid; or memory, only for a valid one with rows
abbrev pub IsIntoRefusal : Option (List Bool) → ℤ → List ℤ → List ℤ → List ℤ → List ℤ → Status → Type 0
IsIntoRefusal hold n ap ai p q Invalid = ¬ (IsCall hold n ap ai p q)
IsIntoRefusal hold n ap ai p q OutOfMemory = (n ≢ pos 0) × IsCall hold n ap ai p q
IsIntoRefusal hold n ap ai p q OK = ⊥
IsIntoRefusal hold n ap ai p q OkButJumbled = ⊥
