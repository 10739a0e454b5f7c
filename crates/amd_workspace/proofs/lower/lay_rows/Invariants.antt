use Rattle.std.proofs.Common.{◌≡◌, ◌≤◌, map}
use Rattle.std.specs.Vec.{vec_capacity}
use Rattle.amd_workspace.specs.Lower.{LaysRows, earlier_below, own_start}
use Rattle.amd_workspace.proofs.lower.lay_rows.Given as goal

abbrev pub invariant-columns : goal.invariant-columns
invariant-columns g l = record {
  reach : l.j ≤ l.laid;
  end : l.end ≡ own_start l.size (map g.I.Index.value l.a_p) (map g.I.Index.value l.a_i) l.j;
  capacity : vec_capacity l.fn.iw ≤ vec_capacity l.iw;
  laid : LaysRows l.size (map g.I.Index.value l.a_p) (map g.I.Index.value l.a_i) l.laid
      (earlier_below l.size (map g.I.Index.value l.a_p) (map g.I.Index.value l.a_i) l.j) l.next l.iw.items;
}
