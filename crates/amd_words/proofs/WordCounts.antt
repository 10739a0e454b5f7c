-- Numbers of words: of a walk over the words of a list, and of the rest of a list.
use Rattle.std.proofs.Common.{ℕ, ◌≡◌, ◌<◌, ◌≤◌, ◌+◌, ◌-◌, arith}

-- a walk over count words from a place on has passed all of them at its end, fewer before, and none at first
pub all_passed : (p from count : ℕ) → from ≤ p → p ≤ from + count → from + count ≤ p → p - from ≡ count
all_passed p from count after past over = omega arith

pub within_count : {p from count : ℕ} → from ≤ p → p < from + count → p - from < count
within_count after there = omega arith

pub next_place : {p from : ℕ} → from ≤ p → p + 1 - from ≡ (p - from) + 1
next_place after = omega arith

pub none_passed : (from : ℕ) → from - from ≡ 0
none_passed from = omega arith

-- the words behind the first few are among those of the list
pub rest_within : (from few count long : ℕ) → few ≤ count → from + count ≤ long → (from + few) + (count - few) ≤ long
rest_within from few count long parts within = omega arith
