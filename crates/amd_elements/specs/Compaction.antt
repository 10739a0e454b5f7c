-- A compaction of the lists of a workspace.
use Rattle.std.specs.Prelude.{ℕ, ℤ, true, false, List, ◌≡◌, ◌<◌, ◌≤◌, ◌+◌, ◌⊎◌, length}
use Rattle.amd_words.specs.Words.{num, is_place, flip_of, word, start}
use Rattle.amd_lists.specs.Layout.{has_list, end_of, live_words}

-- lists lie below the free end and do not overlap, and no word below it is a mark
pub record Spaced (iw pe : List ℤ) (len : List ℕ) (free : ℕ) : Type 0 where
  pub within : (j : ℕ) → has_list pe len j ≡ true → end_of pe len j ≤ free
  pub apart : (i j : ℕ) → has_list pe len i ≡ true → has_list pe len j ≡ true → (i ≡ j → ⊥) →
      (end_of pe len i ≤ start pe j) ⊎ (end_of pe len j ≤ start pe i)
  pub plain : (p : ℕ) → p < free → is_place (word iw p) ≡ true

-- the first m rows have put their mark in place of the first word of their list, which their start has now
pub record Marked (iw pe : List ℤ) (len : List ℕ) (iw' pe' : List ℤ) (m : ℕ) : Type 0 where
  pub long : length iw' ≡ length iw
  pub rows : length pe' ≡ length pe
  pub swapped : (j : ℕ) → j < m → has_list pe len j ≡ true → word iw' (start pe j) ≡ flip_of j
  pub first : (j : ℕ) → j < m → has_list pe len j ≡ true → word pe' j ≡ word iw (start pe j)
  pub others : (j : ℕ) → has_list pe len j ≡ false → word pe' j ≡ word pe j
  pub later : (j : ℕ) → m ≤ j → word pe' j ≡ word pe j
  pub words : (p : ℕ) → (word iw' p ≡ word iw p) ⊎ ((j : ℕ) × (j < m) × (has_list pe len j ≡ true) × (start pe j ≡ p)
      × (word iw' p ≡ flip_of j))

-- the lists moved down, in the same order, with no gap
pub record Compacts (iw pe : List ℤ) (len : List ℕ) (free : ℕ) (iw' pe' : List ℤ) (free' : ℕ) : Type 0 where
  pub long : length iw' ≡ length iw
  pub rows : length pe' ≡ length pe
  pub live : (j : ℕ) → has_list pe' len j ≡ has_list pe len j
  pub same : (j k : ℕ) → has_list pe len j ≡ true → k < num len j →
      word iw' (start pe' j + k) ≡ word iw (start pe j + k)
  pub others : (j : ℕ) → has_list pe len j ≡ false → word pe' j ≡ word pe j
  pub order : (i j : ℕ) → has_list pe len i ≡ true → has_list pe len j ≡ true → start pe i < start pe j →
      end_of pe' len i ≤ start pe' j
  pub laid : Spaced iw' pe' len free'
  pub full : (q : ℕ) → q < free' → (j : ℕ) × (has_list pe len j ≡ true) × (start pe' j ≤ q) × (q < end_of pe' len j)
  pub count : free' ≡ live_words (length len) pe len
  pub lower : free' ≤ free
  pub tail : (p : ℕ) → free ≤ p → word iw' p ≡ word iw p

-- count words stand at another place, and the others stay
pub record Moves (iw iw' : List ℤ) (from to count : ℕ) : Type 0 where
  pub long : length iw' ≡ length iw
  pub copied : (k : ℕ) → k < count → word iw' (to + k) ≡ word iw (from + k)
  pub below : (k : ℕ) → k < to → word iw' k ≡ word iw k
  pub above : (k : ℕ) → to + count ≤ k → word iw' k ≡ word iw k
