use Rattle.std.proofs.Common.{◌≤◌, ◌-◌, map}
use Rattle.amd_model.specs.Input.Columns.{IsColumnForm, IsSorted}
use Rattle.amd_input.proofs.valid.are_short_and_sorted.Given as goal

abbrev pub invariant-groups : goal.invariant-groups
invariant-groups g l =
    let ap = map g.I.Index.value l.a_p in
    let ai = map g.I.Index.value l.a_i in
    record {
      form : IsColumnForm (g.I.Index.value l.n_row) l.first ap ai;
      sorted : IsSorted l.first ap ai;
      inside : l.first ≤ l.columns;
    }

abbrev pub decreases-groups : goal.decreases-groups
decreases-groups g l = l.columns - l.first
