-- Lists that tell an order of all rows, and rows that are no order of them.
use Rattle.std.specs.Prelude.{◌≡◌, ◌==◌, ◌<◌, ◌≤◌, ◌+◌, if◌then◌else◌, ℕ, suc, Bool, true, false, List, [], ◌∷◌, pos}
use Rattle.std.specs.Prelude.{length, map, slice_index, slice_index_or, Contains}
use Rattle.std.specs.List.{AllZip, list_any}
use Rattle.amd_lines.specs.Words.{words, SpellsNumber}
use Rattle.amd_cli.specs.Listed.{ListsEach}
use Rattle.amd_cli.specs.declared.listed.Listed.{Listed}
use Rattle.amd_cli.specs.declared.listed.Numbers.{Numbers}
use Rattle.amd_cli.specs.declared.listed.Numbers.TheVariants.{One, Two}
use Rattle.amd_cli.specs.declared.order_faults.OrderFault.{OrderFault}
use Rattle.amd_cli.specs.declared.order_faults.OrderFault.TheVariants.{Twice, Missing, TwicePlace, MissingPlace}

-- ---- the lines of a list

-- the word is a number up to n
abbrev pub SpellsUpTo : ℕ → List ℕ → ℕ → Type 0
SpellsUpTo n word k = (k ≤ n) × SpellsNumber word (pos k)

-- the words are these numbers up to n: one, or two
abbrev pub AreNumbers : ℕ → List (List ℕ) → Numbers → Type 0
AreNumbers n (w ∷ []) (One k) = SpellsUpTo n w k
AreNumbers n (w ∷ (v ∷ [])) (Two a b) = SpellsUpTo n w a × SpellsUpTo n v b
AreNumbers n ws numbers = ⊥

-- the line has these numbers and no other word
abbrev pub SpellsListed : ℕ → List ℕ → Listed → Type 0
SpellsListed n line l = AreNumbers n (words line) l.numbers

-- ---- what the lines tell

-- a list of single numbers counts from 0 where it has a 0, else from 1
abbrev pub base_of : List ℕ → ℕ
base_of told = if list_any (λ k. k == 0) told then 0 else 1

-- each number is one of rows, told with so much added
abbrev pub IsCountedFrom : ℕ → List ℕ → List ℕ → Type 0
IsCountedFrom base told rows = told ≡ map (λ row. row + base) rows

abbrev pub IsSingle : Listed → ℕ → Type 0
IsSingle l k = l.numbers ≡ One k

-- the lines have the vertices from number v on, rising, and these numbers behind them
abbrev pub ArePairsFrom : ℕ → List Listed → List ℕ → Type 0
ArePairsFrom v [] [] = Unit {0}
ArePairsFrom v (l ∷ ls) (k ∷ ks) = (l.numbers ≡ Two v k) × ArePairsFrom (suc v) ls ks
ArePairsFrom v [] (k ∷ ks) = ⊥
ArePairsFrom v (l ∷ ls) [] = ⊥

-- the numbers, from 0 on, of lines with one each; or of lines with a vertex and its place, behind one with their count
abbrev pub TellsNumbers : List Listed → Bool → List ℕ → Type 0
TellsNumbers ls false numbers = (told : List ℕ) × AllZip IsSingle ls told × IsCountedFrom (base_of told) told numbers
TellsNumbers [] true numbers = ⊥
TellsNumbers (head ∷ ls) true numbers = IsSingle head (length numbers) ×
    ((base : ℕ) × (base ≤ 1) × ((told : List ℕ) × ArePairsFrom base ls told × IsCountedFrom base told numbers))

-- the text lists these numbers, from 0 on, with the vertices beside them or alone
pub record ListsNumbers (bytes : List ℕ) (n : ℕ) (paired : Bool) (numbers : List ℕ) : Type 0 where
  pub listed : List Listed
  pub lists : ListsEach (SpellsListed n) bytes listed
  pub tells : TellsNumbers listed paired numbers

-- ---- rows that are no order

-- exactly the first k rows are marked, and none of them stands there twice
pub record AreSeen (rows : List ℕ) (k : ℕ) (seen : List Bool) : Type 0 where
  pub marked : (m : ℕ) → m < k → slice_index_or seen (slice_index rows m) false ≡ true
  pub named : (i : ℕ) → slice_index_or seen i false ≡ true → (m : ℕ) × (m < k) × (slice_index rows m ≡ i)

-- the row at a place stands before it too, if it is one of n
pub record IsBadPlace (rows : List ℕ) (n place : ℕ) : Type 0 where
  pub within : place < length rows
  pub twice : slice_index rows place < n → (m : ℕ) × (m < place) × (slice_index rows m ≡ slice_index rows place)

-- a number stands at two places; it is told from 1 on
abbrev pub StandsTwice : List ℕ → ℕ → Type 0
StandsTwice rows number = (m : ℕ) × (k : ℕ) × (m < k) × (k < length rows) × (slice_index rows m ≡ slice_index rows k)
    × (number ≡ slice_index rows k + 1)

-- one of n numbers stands nowhere; it is told from 1 on
abbrev pub StandsNowhere : ℕ → List ℕ → ℕ → Type 0
StandsNowhere n rows number = (row : ℕ) × (row < n) × (number ≡ row + 1) × (Contains rows row → ⊥)

-- a row, or a place, stands at two places, or is one of n and stands at none
abbrev pub IsOrderFault : ℕ → List ℕ → OrderFault → Type 0
IsOrderFault n rows (Twice number) = StandsTwice rows number
IsOrderFault n rows (Missing number) = StandsNowhere n rows number
IsOrderFault n rows (TwicePlace number) = StandsTwice rows number
IsOrderFault n rows (MissingPlace number) = StandsNowhere n rows number
