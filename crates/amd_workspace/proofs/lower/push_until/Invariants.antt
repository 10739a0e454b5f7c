use Rattle.std.proofs.Common.{ℕ, List, ◌≤◌, map}
use Rattle.std.specs.Vec.{vec_capacity}
use Rattle.amd_workspace.specs.Lower.{LaysRows}
use Rattle.amd_workspace.proofs.lower.push_until.Given as goal

abbrev pub invariant-rows : goal.invariant-rows
invariant-rows g l = record {
  laid : (early : ℕ → List ℕ) (next : List ℕ) →
      LaysRows l.size (map g.I.Index.value l.a_p) (map g.I.Index.value l.a_i) l.laid early next l.fn.iw.items →
      LaysRows l.size (map g.I.Index.value l.a_p) (map g.I.Index.value l.a_i) l.row early next l.iw.items;
  capacity : vec_capacity l.fn.iw ≤ vec_capacity l.iw;
}
