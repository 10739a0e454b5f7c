-- Forests whose parents stand behind their children, the sizes of the subtrees, and ranks in postorder. A place that
-- has no parent goes up to the number of places, which stands over all.
use Rattle.std.specs.Prelude.{ℕ, ◌≡◌, ◌<◌, ◌≤◌, ◌+◌, List, Option, None, length, slice_index, slice_index_or, unwrap_or}
pub use Rattle.amd_count_laws.specs.Rising.{GoesUp, under}

-- the place to which each goes up is its parent
pub record GoesToParents (parent : List (Option ℕ)) (up : List ℕ) : Type 0 where
  pub room : length up ≡ length parent
  pub each : (k : ℕ) → k < length up → slice_index up k ≡ unwrap_or (slice_index_or parent k None) (length up)

-- q is x, or stands over it
pub data Above (up : List ℕ) : ℕ → ℕ → Type 0 where
  itself : {x : ℕ} → Above up x x
  step : {x q : ℕ} → x < length up → Above up (slice_index up x) q → Above up x q

-- each subtree has its root, and the subtrees of those that go up to it
pub record Measured (up size : List ℕ) : Type 0 where
  pub room : length size ≡ length up + 1
  pub each : (p : ℕ) → p ≤ length up → slice_index size p ≡ 1 + under up size p (length up)

-- the subtree of a place takes the ranks up to its own, those of the places that go up to one place lie one after
-- another, rising, and below the rank of that one
pub record Ranked (up size rank : List ℕ) : Type 0 where
  pub room : length rank ≡ length up + 1
  pub top : slice_index rank (length up) ≡ length up
  pub each : (k : ℕ) → k < length up →
      slice_index rank k + 1 + slice_index size (slice_index up k) ≡ slice_index rank (slice_index up k) + 1
      + under up size (slice_index up k) (k + 1)
