-- The line of an array's size, the lines of its values, and the places that they stand for.
use Rattle.std.specs.Prelude.{◌≡◌, ◌≢◌, ◌==◌, ◌||◌, ◌&&◌, ◌+◌, ◌-◌, not, ℕ, pos, zero, suc, Bool, true, false, List, [], ◌∷◌, ◌++◌}
use Rattle.std.specs.Prelude.{length}
use Rattle.std.specs.List.{list_all, take_while}
use Rattle.amd_lines.specs.Words.{words, SpellsNumber, exponent_mark}
use Rattle.amd_market.specs.Headers.{value_words}
use Rattle.amd_market.specs.Entries.{AreValues}
use Rattle.amd_market.specs.declared.headers.Field.{Field}
use Rattle.amd_market.specs.declared.headers.Symmetry.{Symmetry}
use Rattle.amd_market.specs.declared.headers.Symmetry.TheVariants as kind
use Rattle.amd_market.specs.declared.faults.ReadFault.{ReadFault}
use Rattle.amd_market.specs.declared.faults.ReadFault.TheVariants as fault

-- the line is the number of rows and of columns
pub record SpellsShape (line : List ℕ) (rows columns : ℕ) : Type 0 where
  pub first : List ℕ
  pub second : List ℕ
  pub parts : words line ≡ first ∷ (second ∷ [])
  pub has_rows : SpellsNumber first (pos rows)
  pub has_columns : SpellsNumber second (pos columns)

-- the fault of a line where the size of an array must stand: it is not two numbers, or they differ
abbrev pub HasShapeFault : ReadFault → List ℕ → Type 0
HasShapeFault fault.Shape line = (r c : ℕ) → SpellsShape line r c → ⊥
HasShapeFault (fault.NotSquare rows columns) line = (rows ≢ columns) × SpellsShape line rows columns
HasShapeFault f line = ⊥

-- '0', '.', '+' and '-'
abbrev pub is_zero_byte : ℕ → Bool
is_zero_byte b = b == 48 || b == 46 || b == 43 || b == 45

-- any byte but 'e', 'E', 'd' and 'D', with which an exponent begins
abbrev pub is_before_exponent : ℕ → Bool
is_before_exponent b = not (exponent_mark b == 101) && not (b == 69)

-- a word is zero: before its exponent stand zeros, a point and a sign alone
abbrev pub is_zero : List ℕ → Bool
is_zero word = list_all is_zero_byte (take_while is_before_exponent word)

-- the line is the numbers of a value, and `other` says that they are not all zero
pub record SpellsValue (field : Field) (line : List ℕ) (other : Bool) : Type 0 where
  pub value : AreValues (value_words field) (words line)
  pub is : other ≡ not (list_all is_zero (words line))

-- the lines are values, one by one
abbrev pub SpellsValues : Field → List (List ℕ) → List Bool → Type 0
SpellsValues field [] [] = Unit {0}
SpellsValues field (l ∷ ls) (b ∷ bs) = SpellsValue field l b × SpellsValues field ls bs
SpellsValues field [] (b ∷ bs) = ⊥
SpellsValues field (l ∷ ls) [] = ⊥

-- the first row of a column that an array lists: a symmetric one lists the lower triangle, a skew-symmetric one what is
-- below the diagonal
abbrev pub first_row : Symmetry → ℕ → ℕ
first_row kind.General j = 0
first_row kind.Symmetric j = j
first_row kind.SkewSymmetric j = j + 1
first_row kind.Hermitian j = j

-- so many places of a column, from a row on
abbrev pub column_places : ℕ → ℕ → ℕ → List (ℕ × ℕ)
column_places first j zero = []
column_places first j (suc k) = column_places first j k ++ (first + k, j) ∷ []

-- the places that an array with n rows lists, in so many columns
abbrev pub array_places : Symmetry → ℕ → ℕ → List (ℕ × ℕ)
array_places s n zero = []
array_places s n (suc j) = array_places s n j ++ column_places (first_row s j) j (n - first_row s j)

-- the places whose value is not zero
abbrev pub kept : List Bool → List (ℕ × ℕ) → List (ℕ × ℕ)
kept [] ps = []
kept (b ∷ bs) [] = []
kept (true ∷ bs) (p ∷ ps) = p ∷ kept bs ps
kept (false ∷ bs) (p ∷ ps) = kept bs ps

-- the lines are the values of an array with n rows and columns, of which these are not zero
pub record SpellsArray (field : Field) (s : Symmetry) (n : ℕ) (lines : List (List ℕ)) (entries : List (ℕ × ℕ)) : Type 0
  where
    pub flags : List Bool
    pub counted : length flags ≡ length (array_places s n n)
    pub values : SpellsValues field lines flags
    pub are : entries ≡ kept flags (array_places s n n)
