-- The list of a class of a front, edited in its place.
use Rattle.std.specs.Prelude.{ℕ, ℤ, Bool, true, List, ◌∷◌, ◌++◌, ◌≡◌, ◌<◌, ◌≤◌, ◌+◌, ◌-◌, ◌*◌, ◌/◌, ◌%◌, ◌^◌, ◌&&◌, ◌⊎◌, not}
use Rattle.std.specs.Prelude.{bit_and, nat_lt}
use Rattle.std.specs.Int.{leading_zeros, w64}
use Rattle.std.specs.Prelude.{length, filter, sum_by, slice_set}
use Rattle.amd_model.specs.Figures.{cut}
use Rattle.amd_model.specs.Quotient.{has, turned}
use Rattle.amd_words.specs.Words.{num, word, size_of, in_front, rows, Names}
use Rattle.amd_lists.specs.Spans.{Span, Sifted, sifted, RowList, rows_of, elements_at, variables_at}

-- an element is kept: it stands still
abbrev pub is_kept : List ℕ → ℕ → Bool
is_kept w e = nat_lt 0 (num w e)

-- the counter of each element of a list that stands is at least the flag
abbrev pub AreMet : ℕ → List ℕ → List ℕ → Type 0
AreMet flag w elements = (e : ℕ) → has elements e ≡ true → is_kept w e ≡ true → flag ≤ num w e

-- a variable is kept: it is a class outside the front
abbrev pub is_outside : List ℤ → ℕ → Bool
is_outside nv j = nat_lt 0 (size_of nv j) && not (in_front nv j)

-- the sum of a list on top of another number, as a word wraps it
abbrev pub hashed : ℕ → List ℕ → ℕ
hashed first xs = (first + sum_by (λ j. j) xs) % 2 ^ 64

-- the bits of a sum that make a key: so many of the lowest ones that the greatest key is below n
unfoldable pub key_mask : ℕ → ℕ
key_mask n = (2 ^ 64 - 1) / 2 ^ leading_zeros w64 n / 2

-- the key of a class that keeps these words, a number below n
abbrev pub key_of : ℕ → List ℕ → ℕ
key_of n xs = bit_and (sum_by (λ j. j) xs % 2 ^ 64) (key_mask n)

-- of the words of a span, which name rows below n, those that pass stand from `to` on now, to the end that is left; the
-- sum is theirs, cut, on top of first
pub record Filters (n : ℕ) (pass : ℕ → Bool) (share : ℕ → ℕ) (first : ℕ) (s : Span) (to : ℕ) (l : Sifted) : Type 0 where
  pub long : length l.words ≡ length s.words
  pub low : to ≤ l.end
  pub high : l.end ≤ to + s.count
  pub list : rows l.words to (l.end - to) ≡ filter pass (rows_of s)
  pub names : Names n l.words to (l.end - to)
  pub below : (k : ℕ) → k < to → word l.words k ≡ word s.words k
  pub above : (k : ℕ) → l.end ≤ k → word l.words k ≡ word s.words k
  pub sum_is : l.sum ≡ cut (first + sum_by share (filter pass (rows_of s)))

-- what is left, with the word that was there at first where those that stay end
abbrev pub closed : Span → Sifted → Sifted
closed s l = sifted (slice_set l.words l.end (word s.words l.end)) l.end l.sum

-- the new element stands in front of what a list keeps, which starts where it did: the first kept element and the first
-- kept variable each stand behind the others
pub record Renews (n me : ℕ) (kept is_apart : ℕ → Bool) (l l' : RowList) : Type 0 where
  pub stays : l'.from ≡ l.from
  pub long : length l'.words ≡ length l.words
  pub few_is : l'.n_elements ≡ 1 + length (filter kept (elements_at l))
  pub shorter : (l'.n_elements ≤ l'.count) × (l'.count ≤ l.count)
  pub elements : elements_at l' ≡ me ∷ turned (filter kept (elements_at l))
  pub variables : variables_at l' ≡ turned (filter is_apart (variables_at l))
  pub names : Names n l'.words l'.from l'.count
  pub others : (k : ℕ) → (k < l'.from) ⊎ (l'.from + l'.count ≤ k) → word l'.words k ≡ word l.words k

-- the sum of count numbers that go up to most fits a word: 32 bits hold each of them, and their count
abbrev pub IsExact : ℕ → ℕ → Type 0
IsExact most count = (most < 2 ^ 32) × (count < 2 ^ 32)

-- of the words of a span, which name elements, those of standing ones stand at its front now; the sum is what their
-- counters have above `less`, cut, and hash is their own sum, as a word wraps it. The word at which they end is left open
pub record KeepsWords (narrow : Bool) (less : ℕ) (w : List ℕ) (s : Span) (l : Sifted) (hash : ℕ) : Type 0 where
  pub filters : Filters (length w) (is_kept w) (λ e. num w e - less) 0 s s.from (closed s l)
  pub behind : (k : ℕ) → s.from + s.count ≤ k → word l.words k ≡ word s.words k
  pub hash_is : hash ≡ hashed 0 (filter (is_kept w) (rows_of s))
  pub small : narrow ≡ true → l.sum ≤ 4294967295 * s.count

-- of the words of a span, which name variables, those of classes outside the front stand from `to` on now; the sum is
-- their number of rows on top of first, cut, and hash is their own sum on top of another one, as a word wraps it. The
-- word at which they end is left open
pub record KeepsVariables (nv : List ℤ) (first before : ℕ) (s : Span) (to : ℕ) (l : Sifted) (hash : ℕ) : Type 0 where
  pub filters : Filters (length nv) (is_outside nv) (size_of nv) first s to (closed s l)
  pub hash_is : hash ≡ hashed before (filter (is_outside nv) (rows_of s))

-- what a list keeps: the standing ones among its elements, and the classes outside the front among its variables
abbrev pub kept_words : List ℕ → RowList → List ℕ
kept_words w l = filter (is_kept w) (elements_at l)

abbrev pub near_words : List ℤ → RowList → List ℕ
near_words nv l = filter (is_outside nv) (variables_at l)

-- a list keeps less than it has, so that there is room for the new element me; words go up to most_word, and other
-- cells up to most_cell
pub record CanRenew (most_word most_cell flag me : ℕ) (w : List ℕ) (nv : List ℤ) (l : RowList) : Type 0 where
  pub lengths : length nv ≡ length w
  pub inside : l.from + l.count ≤ length l.words
  pub long : length l.words < 2 ^ 63
  pub few : l.count ≤ most_cell
  pub parts : l.n_elements ≤ l.count
  pub names : Names (length w) l.words l.from l.count
  pub row : (me < length w) × (me ≤ most_word)
  pub room : length (kept_words w l) + length (near_words nv l) < l.count
  pub met : AreMet flag w (elements_at l)

-- a list was renewed; it reaches so many rows outside the front, cut, and hash is the sum of what it keeps, as a word
-- wraps it
pub record RenewsList (flag me : ℕ) (w : List ℕ) (nv : List ℤ) (l l' : RowList) (reach hash : ℕ) : Type 0 where
  pub renews : Renews (length w) me (is_kept w) (is_outside nv) l l'
  pub outside : reach ≡ cut (sum_by (λ e. num w e - flag) (kept_words w l) + sum_by (size_of nv) (near_words nv l))
  pub hash_is : hash ≡ hashed 0 (kept_words w l ++ near_words nv l)
