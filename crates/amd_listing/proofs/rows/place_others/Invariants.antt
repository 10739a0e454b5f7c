use Rattle.std.proofs.Common.{ℕ, List, map, pos}
use Rattle.amd_model.specs.State.{Home}
use Rattle.amd_listing.specs.Ended.{Shortens}
use Rattle.amd_listing.specs.Placing.{AreBlocks}
use Rattle.amd_listing.proofs.Passed.{Passed, putting}
use Rattle.amd_listing.proofs.rows.place_others.Given as goal

abbrev pub invariant-rows : goal.invariant-rows
invariant-rows g l = record {
  shortens : Shortens l.nv l.fn.link l.link;
  passed : (home : ℕ → Home) (elements : List ℕ) → AreBlocks l.fn.link l.nv l.fn.place l.end home elements →
      Passed l.nv l.fn.place l.end home elements (putting l.place l.next (map pos l.p) (map pos l.p_inv)) l.v;
}
