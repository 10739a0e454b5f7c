-- There is a place for each of n rows in each of some slices: where lists start, counts of elements, sizes, bounds, and
-- the links of the lists by bound.
use Rattle.std.specs.Prelude.{ℕ, ℤ, List, ◌≡◌, ◌≤◌, ◌+◌, length}
use Rattle.amd_words.specs.Sides.{nexts, lasts}

-- for how many rows there are sides
abbrev pub row_count : List (ℕ × ℕ) → ℕ
row_count sides = length (nexts sides)

abbrev pub HasWords : ℕ → List ℤ → List ℤ → List ℤ → Type 0
HasWords n pe e_len nv = (length pe ≡ n) × (length e_len ≡ n) × (length nv ≡ n)

abbrev pub HasBounds : ℕ → List ℤ → List ℤ → List ℤ → List ℕ → Type 0
HasBounds n pe e_len nv degree = (length pe ≡ n) × (length e_len ≡ n) × (length nv ≡ n) × (length degree ≡ n)

-- where lists start, counts of elements, lengths and sizes
abbrev pub HasLists : ℕ → List ℤ → List ℤ → List ℕ → List ℤ → Type 0
HasLists n pe e_len len nv = (length pe ≡ n) × (length e_len ≡ n) × (length len ≡ n) × (length nv ≡ n)

abbrev pub HasLinks : ℕ → List ℕ → List ℕ → List ℕ → Type 0
HasLinks n head next last = (length head ≡ n) × (length next ≡ n) × (length last ≡ n)

-- so do the heads of lists by bound, and the sides of rows in them
abbrev pub HasSides : ℕ → List ℕ → List (ℕ × ℕ) → Type 0
HasSides n head sides = HasLinks n head (nexts sides) (lasts sides)

-- the lists of the links are as long as before
abbrev pub KeepsLinks : List ℕ → List ℕ → List ℕ → List ℕ → List ℕ → List ℕ → Type 0
KeepsLinks head next last head' next' last' = (length head' ≡ length head) × (length next' ≡ length next) ×
    (length last' ≡ length last)

-- words are wide enough for marks that name one of n rows, and for places in the workspace
abbrev pub AreWide : ℕ → ℕ → List ℤ → Type 0
AreWide most_word n iw = (n + 2 ≤ most_word) × (length iw ≤ most_word)
