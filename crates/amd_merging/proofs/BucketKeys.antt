-- The bucket that the key of a class chooses.
use Rattle.std.proofs.Common.{ℕ, List, ◌≡◌, ◌<◌, ◌/◌, ap, arith}
use Rattle.std.specs.Prelude.{bit_and}
use Rattle.std.proofs.lemmas.Nat.{and_le_l}
use Rattle.amd_words.specs.Words.{num}
use Rattle.amd_lists.specs.Sizes.{bucket_count}
use Rattle.amd_merging.specs.Merging.{bucket_of, mask_of}

-- a key below the number of rows chooses a bucket that is there
pub bucket_small : (n count : ℕ) (last : List ℕ) (i : ℕ) → num last i < n → bucket_of count last i < bucket_count n
unfolding bucket_of bucket_count
bucket_small n count last i l = let a = and_le_l (num last i / 16) (mask_of count) in omega (arith, a, l)

-- one key, one bucket
pub bucket_same : (count : ℕ) (last last' : List ℕ) (i j : ℕ) → num last i ≡ num last' j → bucket_of count last i ≡ bucket_of count last' j
unfolding bucket_of
bucket_same count last last' i j e = ap (λ k. bit_and (k / 16) (mask_of count)) e
