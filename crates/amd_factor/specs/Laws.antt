-- Laws of a factor in vectors: its parents are the elimination tree, its rows are subtrees, and there is one. Source:
-- Liu 1986, 1990.
use Rattle.std.specs.Prelude.{ℕ, ℤ, ◌≡◌, ◌<◌, ◌+◌, ◌↔◌, List, Contains, Option, None, Some}
use Rattle.std.specs.Prelude.{slice_index, slice_index_or, unsigned_abs}
use Rattle.amd_model.specs.Graph.{Graph}
use Rattle.amd_model.specs.Input.Pattern.{graph_of}
use Rattle.amd_count_laws.specs.Parts.{part_of}
use Rattle.amd_factor.specs.Orders.{Permutes}
use Rattle.amd_factor.specs.Trees.{IsParent, InSubtree}
use Rattle.amd_factor.specs.Factors.{IsFactorOf}

-- what the parent of column k tells: none, that the column is empty; and some, that it is the first entry of the column
-- and the parent in the elimination tree
abbrev pub TellsParent : Graph → List ℕ → List ℕ → List ℕ → ℕ → Option ℕ → Type 0
TellsParent g order ptr rows k None = slice_index ptr (k + 1) ≡ slice_index ptr k
TellsParent g order ptr rows k (Some j) =
    (slice_index ptr k < slice_index ptr (k + 1)) × (slice_index rows (slice_index ptr k) ≡ j) × IsParent g order k j

-- the parents tell the elimination tree
abbrev pub ParentsTellTree : Type 0
ParentsTellTree =
    (n : ℤ) (ap ai p : List ℤ) (ptr rows order : List ℕ) (parent : List (Option ℕ)) →
    IsFactorOf n ap ai p ptr rows parent →
    Permutes (unsigned_abs n) p order → (k : ℕ) → k < unsigned_abs n →
    TellsParent (graph_of (unsigned_abs n) ap ai) order ptr rows k (slice_index_or parent k None)

-- column k has the entry j exactly where k lies in the subtree of row j
abbrev pub RowsTellSubtrees : Type 0
RowsTellSubtrees =
    (n : ℤ) (ap ai p : List ℤ) (ptr rows order : List ℕ) (parent : List (Option ℕ)) →
    IsFactorOf n ap ai p ptr rows parent →
    Permutes (unsigned_abs n) p order → (k j : ℕ) → k < j → j < unsigned_abs n →
    Contains (part_of ptr rows k) j ↔ InSubtree (graph_of (unsigned_abs n) ap ai) order j k

-- two answers for one matrix and one order are one
abbrev pub ThereIsOneFactor : Type 0
ThereIsOneFactor =
    (n : ℤ) (ap ai p : List ℤ) (ptr rows other_ptr other_rows : List ℕ) (parent other_parent : List (Option ℕ)) →
    IsFactorOf n ap ai p ptr rows parent → IsFactorOf n ap ai p other_ptr other_rows other_parent →
    (ptr ≡ other_ptr) × (rows ≡ other_rows) × (parent ≡ other_parent)
