-- What a pass over the rows reads and writes. Source: Liu 1986, 1990; Davis 2005 (LDL).
use Rattle.std.specs.Prelude.{ℕ, Bool, true, ◌≡◌, ◌<◌, ◌↔◌, List, Option, None, Some, length, slice_index}
use Rattle.std.specs.Prelude.{slice_index_or}
use Rattle.amd_model.specs.Below.{count_below}
use Rattle.amd_factor.specs.Orders.{Order}
use Rattle.amd_factor.specs.Trees.{Entry, IsParent}

-- what the rows before place j tell of the parent of place k: it has no entry before j, or this parent, which may lie
-- behind j
abbrev pub TellsParentSoFar : Order → ℕ → ℕ → Option ℕ → Type 0
TellsParentSoFar o j k None = (m : ℕ) → m < j → Entry o.graph o.rows k m → ⊥
TellsParentSoFar o j k (Some parent) = IsParent o.graph o.rows k parent

-- the parents, as far as the rows before place j tell them
pub record TellParents (o : Order) (j : ℕ) (parent : List (Option ℕ)) : Type 0 where
  pub room : length parent ≡ length o.rows
  pub each : (k : ℕ) → k < length o.rows → TellsParentSoFar o j k (slice_index_or parent k None)

-- the column of place k has that many entries before place j
pub record CountsEntry (o : Order) (j k count : ℕ) : Type 0 where
  pub test : ℕ → Bool
  pub exact : (m : ℕ) → m < j → (test m ≡ true) ↔ Entry o.graph o.rows k m
  pub is : count_below j test ≡ count

-- and so of each place
pub record CountEntries (o : Order) (j : ℕ) (counts : List ℕ) : Type 0 where
  pub room : length counts ≡ length o.rows
  pub each : (k : ℕ) → k < length o.rows → CountsEntry o j k (slice_index counts k)
