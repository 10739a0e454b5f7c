-- What `counts` answers.
use Rattle.std.specs.Prelude.{ℕ, ℤ, pos, ◌≡◌, ◌≢◌, ◌≤◌, ◌<◌, ◌+◌, ◌*◌, List, Option, unsigned_abs, min, sum, slice_index}
use Rattle.amd_model.specs.Factor.{needed, needed_front}
use Rattle.amd_model.specs.Figures.{entries, ldl_steps, lu_steps}
use Rattle.amd_model.specs.Graph.{Graph}
use Rattle.amd_model.specs.Input.Columns.{IsInput}
use Rattle.amd_model.specs.Input.Pattern.{graph_of}
use Rattle.amd_count_laws.specs.Parts.{part_size}
use Rattle.amd_factor.specs.Sizes.{HoldSizes}
use Rattle.amd_factor.specs.Orders.{Permutes}
use Rattle.amd_factor.specs.declared.counted.Sums.{Sums}
use Rattle.amd_factor.specs.declared.factor.Fault.{Fault}
use Rattle.amd_factor.specs.declared.factor.Fault.TheVariants.{NotColumnForm, NotPermutation, RoomTooSmall}
use Rattle.amd_factor.specs.declared.factor.Fault.TheVariants.{OutOfMemory}
use Rattle.amd_factor.specs.declared.needs.Need.{Need}
use Rattle.amd_factor.specs.Factors.{IsFactorOf, IsFault}

-- what a field of 128 bits holds of a figure: the lesser of it and the greatest such number
abbrev pub wide_cut : ℕ → ℕ
wide_cut x = min x 340282366920938463463374607431768211455

-- the needs of a factor with these columns, each cut where it passes the greatest number of its field
pub record IsCutNeed (columns : List (List ℕ)) (need : Need) : Type 0 where
  pub lnz : need.lnz ≡ wide_cut (needed entries columns)
  pub ldl : need.n_mult_subs_ldl ≡ wide_cut (needed ldl_steps columns)
  pub lu : need.n_mult_subs_lu ≡ wide_cut (needed lu_steps columns)
  pub greatest : need.d_max ≡ needed_front columns

-- sums over these columns, of their entries and of the squares of these, from which the needs follow
pub record SumUp (columns : List (List ℕ)) (sums : Sums) : Type 0 where
  pub lnz : sums.entries ≡ needed entries columns
  pub ldl : 2 * needed ldl_steps columns ≡ sums.squares + sums.entries
  pub lu : sums.squares ≡ needed lu_steps columns
  pub greatest : sums.greatest ≡ needed_front columns

-- the sizes of the columns of the factor of the graph under the order p of its rows, the parents, and the needs
pub record TellCounts (g : Graph) (p sizes : List ℕ) (parent : List (Option ℕ)) (need : Need) : Type 0 where
  pub holds : HoldSizes g p sizes parent
  pub needs : IsCutNeed holds.columns need

-- and so of a matrix with n rows under the order p, which lists each row once; where n is not 0 the matrix is a column
-- form
pub record IsCountsOf (n : ℤ) (ap ai p : List ℤ) (sizes : List ℕ) (parent : List (Option ℕ))
    (need : Need) : Type 0 where
  pub form : n ≢ pos 0 → IsInput n n ap ai
  pub order : List ℕ
  pub permutes : Permutes (unsigned_abs n) p order
  pub tells : TellCounts (graph_of (unsigned_abs n) ap ai) order sizes parent need

-- a fault of `counts`: the first that there is, in the order of the variants, but for want of memory, which may come
-- before the second is decided
abbrev pub IsCountsFault : ℤ → List ℤ → List ℤ → List ℤ → Fault → Type 0
IsCountsFault n ap ai p NotColumnForm = (n ≢ pos 0) × (¬ (IsInput n n ap ai))
IsCountsFault n ap ai p NotPermutation = (n ≢ pos 0 → IsInput n n ap ai) ×
    ((order : List ℕ) → ¬ (Permutes (unsigned_abs n) p order))
IsCountsFault n ap ai p RoomTooSmall = ⊥
IsCountsFault n ap ai p OutOfMemory = n ≢ pos 0 → IsInput n n ap ai

-- the sum of the sizes is room enough for the columns
abbrev pub CountsReserve : Type 0
CountsReserve =
    (n : ℤ) (ap ai p : List ℤ) (sizes : List ℕ) (parent : List (Option ℕ)) (need : Need) (room : ℕ) →
    IsCountsOf n ap ai p sizes parent need → sum sizes ≤ room → ¬ (IsFault n ap ai p room RoomTooSmall)

-- the sizes are those of the columns, and the parents are theirs
abbrev pub CountsTellFactor : Type 0
CountsTellFactor =
    (n : ℤ) (ap ai p : List ℤ) (sizes ptr rows : List ℕ) (parent other : List (Option ℕ)) (need : Need) →
    IsCountsOf n ap ai p sizes parent need → IsFactorOf n ap ai p ptr rows other →
    (parent ≡ other) × ((k : ℕ) → k < unsigned_abs n → slice_index sizes k ≡ part_size ptr k)
