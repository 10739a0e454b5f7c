use Rattle.std.proofs.Common.{◌≡◌, map, pos}
use Rattle.amd_model.specs.Input.Columns.{at, IsColumnForm}
use Rattle.amd_input.proofs.Classes.{IsRunSoFar}
use Rattle.amd_input.proofs.valid.status_of.Given as goal

abbrev pub invariant-columns : goal.invariant-columns
invariant-columns g l =
    let m = g.I.Index.value l.n_row in
    let ap = map g.I.Index.value l.a_p in
    let ai = map g.I.Index.value l.a_i in
    record {
      form : IsColumnForm m l.j ap ai;
      class : IsRunSoFar l.j ap ai l.status;
      start : at ap l.j ≡ pos l.from;
    }
