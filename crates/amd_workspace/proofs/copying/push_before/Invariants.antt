use Rattle.std.proofs.Common.{◌≡◌, ◌≤◌, ◌-◌, ◌++◌, ℕ, map, pos, get_or}
use Rattle.std.specs.Vec.{vec_capacity}
use Rattle.amd_model.specs.Below.{list_below}
use Rattle.amd_types.specs.Naturals.{naturals, is_entry}
use Rattle.amd_edges.proofs.Reading.{IsReading}
use Rattle.amd_workspace.proofs.SymmetricLists.{own}
use Rattle.amd_workspace.proofs.copying.push_before.Given as goal

abbrev pub invariant-rows : goal.invariant-rows
invariant-rows g l = (m : ℕ) × record {
  place : IsReading (naturals (map g.I.Index.value l.a_i)) (get_or (naturals (map g.I.Index.value l.a_p)) l.i 0) l.stop l.size m l.place;
  low : m ≤ l.i;
  capacity : vec_capacity l.fn.iw ≤ vec_capacity l.iw;
  items : l.iw.items ≡ l.fn.iw.items
      ++ map pos (list_below m (own (is_entry l.size (naturals (map g.I.Index.value l.a_p)) (naturals (map g.I.Index.value l.a_i))) l.i));
}

abbrev pub decreases-rows : goal.decreases-rows
decreases-rows g l = l.stop - l.place
