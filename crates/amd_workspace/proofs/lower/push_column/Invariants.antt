use Rattle.std.proofs.Common.{◌≡◌, ◌≤◌, ◌-◌, ◌++◌, map, pos, take, drop}
use Rattle.std.specs.Vec.{vec_capacity}
use Rattle.amd_types.specs.Naturals.{naturals}
use Rattle.amd_workspace.proofs.lower.push_column.Given as goal

abbrev pub invariant-places : goal.invariant-places
invariant-places g l = record {
  from : l.first ≤ l.place;
  to : l.place ≤ l.stop;
  capacity : vec_capacity l.fn.iw ≤ vec_capacity l.iw;
  items : l.iw.items ≡ l.fn.iw.items ++ map pos (take (l.place - l.first) (drop l.first (naturals (map g.I.Index.value l.a_i))));
}
