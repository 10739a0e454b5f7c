-- What the record of an ordering tells of the pattern of a matrix with n rows.
use Rattle.std.specs.Prelude.{◌≡◌, ◌*◌, ◌↔◌, ℕ, ℤ, List, IsTrue}
use Rattle.amd_model.specs.Graph.{edge_count}
use Rattle.amd_model.specs.Input.Pattern.{graph_of, pair_count, diagonal_count, IsSymmetric}
use Rattle.amd_types.specs.declared.amd.Info.{Info}

-- the figures of the pattern stand in the record
pub record HasPatternFigures (n : ℕ) (ap ai : List ℤ) (info : Info) : Type 0 where
  pub size : info.n ≡ n
  -- the pairs of the pattern, those on the diagonal, and twice the edges
  pub entries : info.nz ≡ pair_count n ap ai
  pub diagonal : info.nz_diag ≡ diagonal_count n ap ai
  pub off_diagonal : info.nz_a_plus_at ≡ 2 * edge_count (graph_of n ap ai)
  pub symmetric : IsTrue info.symmetry ↔ IsSymmetric n ap ai
