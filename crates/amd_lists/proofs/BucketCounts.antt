-- How many buckets there are, beside the number of rows.
use Rattle.std.proofs.Common.{ℕ, ◌≤◌, arith}
use Rattle.amd_lists.specs.Sizes.{bucket_count}

-- there are no more buckets than rows
pub buckets_few : (n : ℕ) → bucket_count n ≤ n
unfolding bucket_count
buckets_few n = omega arith

-- more rows, no fewer buckets
pub buckets_rise : (m n : ℕ) → m ≤ n → bucket_count m ≤ bucket_count n
unfolding bucket_count
buckets_rise m n l = omega (arith, l)
