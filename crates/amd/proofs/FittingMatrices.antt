-- A matrix that fits in a workspace fits in its lists, and one for which a block has the bytes fits in the block.
use Rattle.std.proofs.Common.{ℕ, ℤ, List, pos, ◌≡◌, ◌≢◌, ◌≤◌, ◌<◌, ◌∙◌, ap, arith, slice_index, subst, sym}
use Rattle.std.specs.Prelude.{unsigned_abs}
use Rattle.amd_count_laws.specs.Within.{FitsIn}
use Rattle.amd_types.specs.Naturals.{naturals}
use Rattle.amd.specs.Blocks.{FitsInBlock, workspace_bytes}
use Rattle.amd.proofs.OrderedColumns.{not_nothing}

-- a matrix that fits in a workspace has at most the rows and entries of its lists
pub fits_lists : (count : ℕ) (z : ℤ) (a_p : List ℤ) (rows entries rows_made entries_made places : ℕ) → pos count ≡ z → count ≢ 0 →
    rows_made ≡ rows → entries_made ≡ entries → places ≡ count → FitsIn z a_p rows entries →
    (places ≤ rows_made) × (slice_index (naturals a_p) places ≤ entries_made)
fits_lists count z a_p rows entries rows_made entries_made places is some rows_are entries_are places_are fits =
    rw (places_are ∙ ap unsigned_abs is, rows_are, entries_are) (fits (not_nothing count z is some))

not_below : (a b : ℕ) → a < b → b ≤ a → ⊥
not_below a b small large = omega (arith, small, large)

-- a block with the bytes for the entries of a matrix
module _ (count : ℕ) (z : ℤ) (a_p : List ℤ) (entries size : ℕ) (is : pos count ≡ z) (some : count ≢ 0)
    (entries_are : entries ≡ slice_index (naturals a_p) count) where
  pub block_bytes : (places : ℕ) → places ≡ count → workspace_bytes count entries ≤ size →
      workspace_bytes places (slice_index (naturals a_p) places) ≤ size
  block_bytes places places_are room = subst (λ m. workspace_bytes m (slice_index (naturals a_p) m) ≤ size) (sym places_are)
      (subst (λ e. workspace_bytes count e ≤ size) entries_are room)

  pub fits_block : workspace_bytes count entries ≤ size → FitsInBlock z a_p size
  fits_block room = λ _. block_bytes (unsigned_abs z) (sym (ap unsigned_abs is)) room

  -- and one with too few bytes
  pub block_small : size < workspace_bytes count entries → ¬ (FitsInBlock z a_p size)
  block_small small = λ fits.
      not_below size (workspace_bytes count entries) small
      (subst (λ e. workspace_bytes count e ≤ size) (sym entries_are)
      (subst (λ m. workspace_bytes m (slice_index (naturals a_p) m) ≤ size) (sym (ap unsigned_abs is))
      (fits (not_nothing count z is some))))
