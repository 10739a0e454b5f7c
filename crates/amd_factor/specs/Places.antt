-- The place of each row in an order of the rows.
use Rattle.std.specs.Prelude.{ℕ, ◌≡◌, ◌<◌, List, length, slice_index}
use Rattle.amd_model.specs.Listing.{ListsEachRow}

-- rows lists each number below n, once, and at each of them stands its place in rows
pub record ArePlaces (n : ℕ) (rows places : List ℕ) : Type 0 where
  pub room : length places ≡ n
  pub listing : ListsEachRow n rows
  pub each : (k : ℕ) → k < n → slice_index places (slice_index rows k) ≡ k
