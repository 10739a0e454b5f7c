-- What the walk over the edges tells of a matrix: its degrees and the figures of its pattern.
use Rattle.std.proofs.Common.{◌≡◌, ◌-◌, ◌^◌, ◌<◌, ◌≤◌, ℕ, ℤ, pos, negsuc, List, length, get_or, arith, refl, sym, ◌∙◌, eqb, unsigned_abs}
use Rattle.std.specs.Int.{FitsUnsignedBits}
use Rattle.std.proofs.lemmas.Bool.{eqb-true, eq-eqb}
use Rattle.amd_model.specs.Below.{sum_below, count_below}
use Rattle.amd_model.specs.Graph.{degree, degree_sum}
use Rattle.amd_model.specs.Input.Columns.{IsColumnForm, IsSorted, IsInput, IsSortedInput}
use Rattle.amd_model.specs.Input.Pattern.{graph_of, pair_count, diagonal_count}
use Rattle.amd_model.proofs.Counting.Below.{sum_same}
use Rattle.amd_model.proofs.Patterns.DegreeSums.{degrees_twice, pattern_graph}
use Rattle.amd_types.specs.Naturals.{naturals}
use Rattle.amd_types.specs.declared.amd.Info.{Info}
use Rattle.amd_edges.specs.Visits.{AreCounts}
use Rattle.amd_input.specs.Degrees.{AreDegrees}
use Rattle.amd_input.specs.PatternFigures.{HasPatternFigures}
use Rattle.amd_input.specs.Transposes.{IsCleanForm, IsCleanTranspose}
use Rattle.amd_input.proofs.Symmetry.{pairs_counted, diagonal_part, symmetric_when, symmetric_only}

-- the number of columns of an input is a count
pub input_form : (z : ℤ) (ap' ai : List ℤ) → IsInput z z ap' ai → IsColumnForm (pos (unsigned_abs z)) (unsigned_abs z) ap' ai
input_form (pos n) ap' ai h = h
input_form (negsuc n) ap' ai h = absurd h

pub input_sorted : (z : ℤ) (ap' ai : List ℤ) → IsSortedInput z ap' ai → IsSorted (unsigned_abs z) ap' ai
input_sorted (pos n) ap' ai h = h
input_sorted (negsuc n) ap' ai h = absurd h

-- so it is one itself, and what holds of the count holds of it
pub input_pos : (z : ℤ) (ap' ai : List ℤ) → IsInput z z ap' ai → z ≡ pos (unsigned_abs z)
input_pos (pos n) ap' ai h = refl
input_pos (negsuc n) ap' ai h = absurd h

pub input_clean : (z : ℤ) (ap' ai bp bi : List ℤ) → IsInput z z ap' ai → IsCleanForm (unsigned_abs z) ap' ai bp bi →
    IsCleanTranspose z ap' ai bp bi
input_clean (pos n) ap' ai bp bi h clean = clean
input_clean (negsuc n) ap' ai bp bi h clean = absurd h

pub input_fits : (z : ℤ) (ap' ai : List ℤ) → IsInput z z ap' ai → length ap' < 2 ^ 64 → FitsUnsignedBits 64 z
input_fits (pos n) ap' ai h short = (let enough = h.enough in omega arith)
input_fits (negsuc n) ap' ai h short = absurd h

module _ (n : ℕ) (ap' ai : List ℤ) where
  pub degrees_are : (numbers : List ℕ) (total : ℕ) → AreCounts (graph_of n ap' ai) ((graph_of n ap' ai).edge) numbers →
      total ≡ sum_below (length numbers) (λ k. get_or numbers k 0) →
      AreDegrees n ap' ai total numbers
  unfolding graph_of degree degree_sum
  degrees_are numbers total h e = record {
    size = h.size;
    sum = e ∙ rw h.size (sum_same n (λ k. get_or numbers k 0) (λ k. count_below n ((graph_of n ap' ai).edge k)) h.each);
    each = h.each;
  }

  pub figures_are : IsColumnForm (pos n) n ap' ai → IsSorted n ap' ai → (info : Info) → info.n ≡ n → info.nz ≡ get_or (naturals ap') n 0 →
      info.nz_diag ≡ diagonal_count n ap' ai →
      info.nz_a_plus_at ≡ degree_sum (graph_of n ap' ai) → info.symmetry ≡ eqb info.nz_a_plus_at (info.nz - info.nz_diag) →
      HasPatternFigures n ap' ai info
  figures_are form sorted info size places diagonals arcs test =
      let pairs = places ∙ pairs_counted n ap' ai form sorted in
      let rest : info.nz - info.nz_diag ≡ pair_count n ap' ai - diagonal_count n ap' ai = rw (pairs, diagonals) refl in
      record {
        size = size;
        entries = pairs;
        diagonal = diagonals;
        off_diagonal = arcs ∙ degrees_twice (graph_of n ap' ai) (pattern_graph n ap' ai);
        symmetric = (
          (λ e. symmetric_when n ap' ai (sym arcs ∙ eqb-true info.nz_a_plus_at (info.nz - info.nz_diag) (sym test ∙ e) ∙ rest)),
          (λ h. test ∙ eq-eqb info.nz_a_plus_at (info.nz - info.nz_diag) (arcs ∙ symmetric_only n ap' ai h ∙ sym rest)),
        );
      }

  -- there are no more entries on the diagonal than entries
  pub diagonal_within : IsColumnForm (pos n) n ap' ai → IsSorted n ap' ai → (diagonals entries : ℕ) → diagonals ≡ diagonal_count n ap' ai →
      entries ≡ get_or (naturals ap') n 0 → diagonals ≤ entries
  diagonal_within form sorted diagonals entries is places =
      let pairs = pairs_counted n ap' ai form sorted in
      let part = diagonal_part n ap' ai in
      omega (arith, is, places, pairs, part)
