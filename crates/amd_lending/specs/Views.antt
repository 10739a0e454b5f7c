-- Numbers as words and as cells.
use Rattle.std.specs.Int.{int_max}
use Rattle.std.specs.Prelude.{ℕ, ℤ, negsuc, List, [], ◌∷◌, ◌≤◌, unsigned_abs}
use Rattle.std.specs.Borrow.{i32, isize, usize}
use denote.RattleType.{RattleType}
use Rattle.amd_words.specs.contracts.Word as word
use Rattle.amd_words.specs.contracts.IsizeSigned.TheImpl as signed
use Rattle.amd_words.specs.contracts.I32Signed.TheImpl as narrow
use Rattle.amd_words.specs.contracts.Cell as cell
use Rattle.amd_words.specs.contracts.UsizeUnsigned.TheImpl as unsigned

-- what holds of each of some values
abbrev pub Each : {X : Type 0} → (X → Type 0) → List X → Type 0
Each ok [] = Unit {0}
Each ok (x ∷ xs) = ok x × Each ok xs

-- numbers of which each fits a word whose greatest number this is
abbrev pub FitWords : ℕ → List ℤ → Type 0
FitWords most xs = Each (λ x. unsigned_abs x ≤ most) xs

-- numbers of which each fits a word of 64 bits, or one of 32 bits
abbrev pub AreWords : List ℤ → Type 0
AreWords = FitWords 9223372036854775807

abbrev pub AreNarrowWords : List ℤ → Type 0
AreNarrowWords = FitWords 2147483647

-- the least number of 64 bits raised by 1, since no word holds it, and each other number
abbrev pub raised : ℤ → ℤ
raised x = int_max x (negsuc 9223372036854775806)

-- the types of a wide word, a narrow word and a wide cell, as the logic names them
abbrev pub Words : RattleType
Words = word.the_row isize signed.ghosts

abbrev pub NarrowWords : RattleType
NarrowWords = word.the_row i32 narrow.ghosts

abbrev pub Cells : RattleType
Cells = cell.the_row usize unsigned.ghosts
