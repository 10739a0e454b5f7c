-- The lists of a symmetric pattern, copied from its columns.
use Rattle.std.specs.Prelude.{ℕ, ℤ, Bool, true, List, ◌≡◌, ◌<◌, ◌&&◌, ◌==◌, not}
use Rattle.amd_model.specs.Input.Pattern.{is_pair}
use Rattle.amd_words.specs.Words.{is_place, place, word}

-- row x stands in column i, and is another row
unfoldable pub is_other : ℕ → List ℤ → List ℤ → ℕ → ℕ → Bool
is_other n ap ai i x = not (x == i) && is_pair n ap ai x i

-- each word is a row below n
abbrev pub HoldRows : ℕ → List ℤ → Type 0
HoldRows n iw = (k : ℕ) → (is_place (word iw k) ≡ true) × (place (word iw k) < n)
