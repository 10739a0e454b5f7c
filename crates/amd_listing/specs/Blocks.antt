-- The blocks of elements one after another, with their rows: where each starts in the listing, and what the listing is.
use Rattle.std.specs.Prelude.{ℕ, ℤ, true, List, [], ◌∷◌, ◌++◌, ◌≡◌, ◌<◌, ◌==◌, ◌&&◌, not, flat_map, length}
use Rattle.std.specs.Prelude.{nat_lt, slice_index}
use Rattle.std.specs.Prelude.{sum_by, take}
use Rattle.amd_model.specs.Below.{count_below, list_below}
use Rattle.amd_model.specs.State.{Home, block_at}
use Rattle.amd_model.specs.Laws.{is_last}
use Rattle.amd_model.specs.Quotient.{has, Once}
use Rattle.amd_words.specs.Words.{num, size_of}

-- of n rows those of the block of e, rising, without its pivot row; and with it, behind them
abbrev pub others_of : ℕ → (ℕ → Home) → ℕ → List ℕ
others_of n home e = list_below n (λ v. block_at e (home v) && not (v == e))

abbrev pub block_of : ℕ → (ℕ → Home) → ℕ → List ℕ
block_of n home e = others_of n home e ++ e ∷ []

-- the rows of the blocks of the elements, in their order, and then those held last, rising
abbrev pub listing_of : ℕ → (ℕ → Home) → List ℕ → List ℕ
listing_of n home elements = flat_map (block_of n home) elements ++ list_below n (λ v. is_last (home v))

-- exactly the rows with a number of rows are listed, each once, and that is how many rows its block has
pub record AreElements (n : ℕ) (home : ℕ → Home) (elements : List ℕ) (nv : List ℤ) : Type 0 where
  pub once : Once elements
  pub each : (e : ℕ) → has elements e ≡ (nat_lt e n && nat_lt 0 (size_of nv e))
  pub sizes : (e : ℕ) → has elements e ≡ true → size_of nv e ≡ count_below n (λ v. block_at e (home v))

-- the block of each element starts where those before it end, and `end` is where the last one ends
pub record AreStarts (n : ℕ) (elements : List ℕ) (nv : List ℤ) (starts : List ℕ) (end : ℕ) : Type 0 where
  pub long : length starts ≡ n
  pub each : (k : ℕ) → k < length elements → num starts (slice_index elements k) ≡ sum_by (size_of nv) (take k elements)
  pub end_is : end ≡ sum_by (size_of nv) elements

-- the first figures are the numbers of a list, and `count` is how many they are
pub record BeginWith (figures : List ℕ) (count : ℕ) (xs : List ℕ) : Type 0 where
  pub long : length xs ≡ count
  pub each : (k : ℕ) → k < count → num figures k ≡ slice_index xs k
