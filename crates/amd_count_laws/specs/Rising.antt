-- Forests whose parents stand behind their children. A place that has no parent goes up to the number of places, which
-- stands over all.
use Rattle.std.specs.Prelude.{ℕ, ◌<◌, ◌≤◌, ◌==◌, cond, List, length, slice_index}
use Rattle.amd_model.specs.Below.{sum_below}

-- each place goes up to one behind it
pub record GoesUp (up : List ℕ) : Type 0 where
  pub rises : (k : ℕ) → k < length up → k < slice_index up k
  pub most : (k : ℕ) → k < length up → slice_index up k ≤ length up

-- the sum of the sizes of those places below m that go up to p
abbrev pub under : List ℕ → List ℕ → ℕ → ℕ → ℕ
under up size p m = sum_below m (λ c. cond (slice_index up c == p) (slice_index size c) 0)
