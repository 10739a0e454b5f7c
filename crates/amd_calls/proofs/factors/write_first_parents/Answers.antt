use Rattle.std.proofs.Common.{length, refl}
use Rattle.amd_calls.specs.Columns.{parent_number}
use Rattle.amd_calls.proofs.ColumnsLeft.{front_values}
use Rattle.amd_calls.proofs.factors.write_first_parents.Goals as goal

pub returns : goal.returns
returns g c = front_values g.I.Index.value parent_number c.write_parents.new.numbers c.args.numbers.now c.args.parents.now
    (length c.args.parents.now)
    c.write_parents.ensures refl
