use Rattle.std.proofs.Common.{ℕ, ◌≡◌, List, length, map, pos}
use Rattle.amd_model.specs.State.{Home}
use Rattle.amd_listing.specs.Blocks.{AreElements, BeginWith}
use Rattle.amd_listing.proofs.BlockStarts.{AreStarted, PivotsPut}
use Rattle.amd_listing.proofs.blocks.block_starts.Given as goal

abbrev pub invariant-places : goal.invariant-places
invariant-places g l = record {
  room : length l.starts ≡ length l.fn.starts;
  started : (home : ℕ → Home) (es : List ℕ) → AreElements (length l.nv) home es l.nv → BeginWith l.elements l.count es →
      AreStarted l.k es l.nv l.starts l.total;
  put : (home : ℕ → Home) (es : List ℕ) → AreElements (length l.nv) home es l.nv → BeginWith l.elements l.count es →
      PivotsPut l.k es l.nv l.total (map pos l.p) (map pos l.p_inv);
}
