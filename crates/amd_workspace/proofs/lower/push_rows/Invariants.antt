use Rattle.std.proofs.Common.{◌≡◌, ◌≤◌, ◌+◌, ◌++◌, length, pos, replicate}
use Rattle.std.specs.Vec.{vec_capacity}
use Rattle.amd_workspace.proofs.lower.push_rows.Given as goal

abbrev pub invariant-words : goal.invariant-words
invariant-words g l = record {
  room : length l.fn.iw.items + l.count ≤ vec_capacity l.iw;
  capacity : vec_capacity l.fn.iw ≤ vec_capacity l.iw;
  items : l.iw.items ≡ l.fn.iw.items ++ replicate l.counter (pos l.row);
}
