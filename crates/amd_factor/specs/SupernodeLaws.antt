-- Laws of the supernodes of a factor: how many there are, and what they tell of the needs of the factor. Source: Liu,
-- Ng and Peyton 1993; AMD user guide.
use Rattle.std.specs.Prelude.{ℕ, ℤ, true, pos, ◌≡◌, ◌≢◌, ◌≤◌, ◌<◌, ◌+◌, ◌-◌, ◌++◌, List, [], Option, length}
use Rattle.std.specs.Prelude.{slice_index_or, unsigned_abs}
use Rattle.std.specs.List.{range_with_len}
use Rattle.amd_model.specs.Below.{sum_below}
use Rattle.amd_model.specs.Figures.{entries, front_sum, ldl_steps, lu_steps, max_below}
use Rattle.amd_model.specs.Graph.{Graph}
use Rattle.amd_model.specs.Input.Columns.{IsInput}
use Rattle.amd_model.specs.Input.Pattern.{graph_of}
use Rattle.amd_count_laws.specs.Parts.{part_size}
use Rattle.amd_factor.specs.Counted.{IsCountsOf, wide_cut}
use Rattle.amd_factor.specs.Orders.{Permutes}
use Rattle.amd_factor.specs.Supernodes.{AreRuns, HoldRowsBelow, HoldSupernodes, IsSupernodesOf, Joined}
use Rattle.amd_factor.specs.declared.needs.Need.{Need}

-- the columns from place from on, before end, are those of a supernode with these rows below its block
abbrev pub HaveBlock : List (List ℕ) → ℕ → ℕ → List ℕ → Type 0
HaveBlock columns from end below = (k : ℕ) → from ≤ k → k < end →
    slice_index_or columns k [] ≡ range_with_len (k + 1) (end - (k + 1)) ++ below

-- the vectors hold the supernodes of the factor that has these columns
pub record AreBlocksOf (columns : List (List ℕ)) (first ptr rows : List ℕ) (parent : List (Option ℕ)) : Type 0 where
  pub runs : AreRuns (Joined columns) (length columns) first
  pub holds : HoldRowsBelow columns first ptr rows parent

-- there are that many supernodes of the factor of the graph under the order p of its rows, and that many rows below
-- their blocks
pub record TellSizesOf (g : Graph) (p : List ℕ) (supernodes below : ℕ) : Type 0 where
  pub first : List ℕ
  pub ptr : List ℕ
  pub rows : List ℕ
  pub parent : List (Option ℕ)
  pub hold : HoldSupernodes g p first ptr rows parent
  pub count : supernodes ≡ length parent
  pub entries : below ≡ length rows

-- and so of a matrix with n rows under the order p, which lists each row once; where n is not 0 the matrix is a column
-- form
pub record AreSizesOf (n : ℤ) (ap ai p : List ℤ) (supernodes below : ℕ) : Type 0 where
  pub form : n ≢ pos 0 → IsInput n n ap ai
  pub order : List ℕ
  pub permutes : Permutes (unsigned_abs n) p order
  pub tells : TellSizesOf (graph_of (unsigned_abs n) ap ai) order supernodes below

-- the sum of the shares of all supernodes, each as a front: its places, and the rows below
abbrev pub block_sum : (ℕ → ℕ) → List ℕ → List ℕ → ℕ
block_sum share first ptr = sum_below (length first - 1) (λ s. front_sum share (part_size first s) (part_size ptr s))

-- the needs of a factor, by its supernodes alone, each cut where it passes the greatest number of its field
pub record BlocksNeed (first ptr : List ℕ) (need : Need) : Type 0 where
  pub lnz : need.lnz ≡ wide_cut (block_sum entries first ptr)
  pub ldl : need.n_mult_subs_ldl ≡ wide_cut (block_sum ldl_steps first ptr)
  pub lu : need.n_mult_subs_lu ≡ wide_cut (block_sum lu_steps first ptr)
  pub greatest : need.d_max ≡ max_below (length first - 1) (λ s. true) (λ s. part_size first s + part_size ptr s) 0

-- the supernodes tell what the factor needs
abbrev pub SupernodesTellNeeds : Type 0
SupernodesTellNeeds =
    (n : ℤ) (ap ai p : List ℤ) (first ptr rows sizes : List ℕ) (parent over : List (Option ℕ)) (need : Need) →
    IsSupernodesOf n ap ai p first ptr rows parent → IsCountsOf n ap ai p sizes over need → BlocksNeed first ptr need
