use Rattle.std.proofs.Common.{ℕ, ◌<◌, ◌≤◌, ◌-◌, length}
use Rattle.amd_words.specs.Words.{num}
use Rattle.amd_lists.specs.Chains.{SomeFrom}
use Rattle.amd_lists.proofs.chains.least_bound.Given as goal

abbrev pub invariant-bounds : goal.invariant-bounds
invariant-bounds g l = record {
  from : l.least ≤ l.bound;
  some : SomeFrom (length l.head) l.head l.bound;
  below : (b : ℕ) → l.least ≤ b → b < l.bound → length l.head ≤ num l.head b;
}

abbrev pub decreases-bounds : goal.decreases-bounds
decreases-bounds g l = length l.head - l.bound
