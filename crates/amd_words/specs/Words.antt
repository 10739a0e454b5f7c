-- What the words of a workspace say: places, rows, and the sizes of classes, of which the sign is a mark.
use Rattle.std.specs.Prelude.{ℕ, ℤ, pos, negsuc, zero, suc, Bool, true, false, List, [], ◌∷◌, ◌++◌, ◌≡◌, ◌<◌, ◌+◌}
use Rattle.std.specs.Prelude.{slice_index_or}
use Rattle.std.specs.Prelude.{filter, nat_lt}

-- a word is a place or a row, and which one
unfoldable pub is_place : ℤ → Bool
is_place (pos n) = true
is_place (negsuc n) = false

unfoldable pub place : ℤ → ℕ
place (pos n) = n
place (negsuc n) = 0

-- a number of rows, and whether its sign marks it
unfoldable pub rows_in : ℤ → ℕ
rows_in (pos n) = n
rows_in (negsuc n) = suc n

unfoldable pub is_negative : ℤ → Bool
is_negative (pos n) = false
is_negative (negsuc n) = true

-- the mark that names a parent or an owner
abbrev pub flip_of : ℕ → ℤ
flip_of j = negsuc (j + 1)

-- the number at a place, 0 past the end
abbrev pub num : List ℕ → ℕ → ℕ
num numbers i = slice_index_or numbers i 0

-- the word at a place
abbrev pub word : List ℤ → ℕ → ℤ
word words k = slice_index_or words k (pos 0)

-- the start of the list of a row
abbrev pub start : List ℤ → ℕ → ℕ
start pe j = place (word pe j)

-- the number of rows of a class, 0 for what is none
abbrev pub size_of : List ℤ → ℕ → ℕ
size_of nv j = rows_in (word nv j)

-- the class is in the front of the pivot
abbrev pub in_front : List ℤ → ℕ → Bool
in_front nv j = is_negative (word nv j)

-- the classes of a list: what has no row is none
abbrev pub classes : List ℤ → List ℕ → List ℕ
classes nv xs = filter (λ j. nat_lt 0 (size_of nv j)) xs

-- the rows that count words from a place on name
unfoldable pub rows : List ℤ → ℕ → ℕ → List ℕ
rows iw from zero = []
rows iw from (suc count) = rows iw from count ++ place (word iw (from + count)) ∷ []

-- count words from a place on name rows below n
abbrev pub Names : ℕ → List ℤ → ℕ → ℕ → Type 0
Names n iw from count = (k : ℕ) → k < count → (is_place (word iw (from + k)) ≡ true) × (place (word iw (from + k)) < n)
