use Rattle.std.proofs.Common.{length, pos, refl}
use Rattle.amd_calls.proofs.ColumnsLeft.{front_values}
use Rattle.amd_calls.proofs.factors.write_first_numbers.Goals as goal

pub returns : goal.returns
returns g c = front_values g.I.Index.value pos c.write_numbers.new.numbers c.args.numbers.now c.args.naturals.now
    (length c.args.naturals.now) c.write_numbers.ensures refl
