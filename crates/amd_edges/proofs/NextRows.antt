-- The next row of a column below the diagonal, at which the walk meets an edge.
use Rattle.std.proofs.Common.{◌≡◌, ◌+◌, ◌<◌, ◌≤◌, ℕ, ℤ, List, pos, get_or, set, sym, le_refl}
use Rattle.amd_model.specs.Input.Columns.{IsColumnForm, IsSorted}
use Rattle.amd_types.specs.Naturals.{naturals, count_graph}
use Rattle.amd_edges.specs.Visits.{with_arc, IsNewEdge}
use Rattle.amd_edges.specs.Walk.{IsScan, met}
use Rattle.amd_edges.proofs.Forms.{sorted_form}
use Rattle.amd_edges.proofs.Reading.{IsReading, row_below, row_from, before_end}
use Rattle.amd_edges.proofs.Scans.{lower_new, lower_after}

-- the next row above k: its edge is new, it is met with it, and no row between was left out
pub record IsNextRow (n : ℕ) (ap' ai t : List ℕ) (k j q b row : ℕ) : Type 0 where
  pub below : row < k
  pub new : IsNewEdge (count_graph n ap' ai) (met n ap' ai (set t j q) k (j + 1)) row j
  pub after : with_arc (with_arc (met n ap' ai (set t j q) k (j + 1)) row j) j row ≡ met n ap' ai (set t j (q + 1)) k (j + 1)
  pub inside : q < get_or ap' (j + 1) 0
  pub least : b ≤ row

-- the row at the place, read once to compare it and once to use it, is the next one
module _ {n k j b end q first row : ℕ} {ap' ai : List ℤ} {t : List ℕ} (form : IsColumnForm (pos n) n ap' ai) (sorted : IsSorted n ap' ai)
    (before : j < k) (k_in : k ≤ n) (scan : IsScan n (naturals ap') (naturals ai) t k j) (end_is : end ≡ get_or (naturals ap') (j + 1) 0)
    (so : IsReading (naturals ai) (get_or t j 0) end k b q) (first_is : first ≡ get_or (naturals ai) q 0)
    (is : row ≡ get_or (naturals ai) q 0) (inside : q < end) (below : first < k) where
  pub next_row : IsNextRow n (naturals ap') (naturals ai) t k j q b row
  next_row = let rising = sorted_form n ap' ai form sorted in let to = before_end end_is inside in
      let low = row_below first_is is below in record {
        below = low;
        new = lower_new n (naturals ap') (naturals ai) rising t k j q scan before k_in so.from row is to low;
        after = lower_after n (naturals ap') (naturals ai) rising t k j q scan before k_in so.from row is to low;
        inside = to;
        least = row_from (sym is) (so.left q (le_refl q) inside);
      }
