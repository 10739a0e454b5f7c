use Rattle.std.proofs.Common.{◌≤◌, map}
use Rattle.std.specs.Vec.{vec_capacity}
use Rattle.amd_workspace.specs.Copying.{HoldRows}
use Rattle.amd_workspace.proofs.CopiedColumns.{AreCopied}
use Rattle.amd_workspace.proofs.copying.copy_symmetric.Given as goal

abbrev pub invariant-columns : goal.invariant-columns
invariant-columns g l = record {
  copied : AreCopied l.size (map g.I.Index.value l.a_p) (map g.I.Index.value l.a_i) l.degrees l.iw.items l.i l.free;
  words : HoldRows l.size l.fn.iw.items → HoldRows l.size l.iw.items;
  capacity : vec_capacity l.fn.iw ≤ vec_capacity l.iw;
}
