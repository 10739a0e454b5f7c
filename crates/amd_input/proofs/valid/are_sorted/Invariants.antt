use Rattle.std.proofs.Common.{◌≡◌, ◌+◌, ◌≤◌, length, map, pos}
use Rattle.amd_model.specs.Input.Columns.{at}
use Rattle.amd_input.specs.Scans.{descents_below}
use Rattle.amd_input.proofs.Descents.{AreFirsts}
use Rattle.amd_input.proofs.valid.are_sorted.Given as goal

abbrev pub invariant-columns : goal.invariant-columns
invariant-columns g l =
    let ap = map g.I.Index.value l.a_p in
    let ai = map g.I.Index.value l.a_i in
    record {
      firsts : AreFirsts (g.I.Index.value l.n_row) ap ai l.j l.from (descents_below ai l.start + l.firsts);
      begin : at ap l.j ≡ pos l.from;
      ordered : l.start ≤ l.from;
      inside : l.from ≤ length l.a_i;
    }
