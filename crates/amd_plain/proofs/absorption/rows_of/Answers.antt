use Rattle.std.proofs.Common.{arith}
use Rattle.std.proofs.lemmas.List.Sums.{sum_by_more_le}
use Rattle.amd_plain.specs.Views.{num}
use Rattle.std.proofs.Common.{◌+◌, ◌∙◌, ap, sym, get_or}
use Rattle.std.proofs.lemmas.List.Sums.{sum_by_more}
use Rattle.amd_plain.proofs.absorption.rows_of.Goals as goal

pub overflow_add-total : goal.overflow_add-total
overflow_add-total c =
    let within = sum_by_more_le (num c.args.size.now) c.args.list.now c.loop-i.i-index 0 c.loop-i-test.true in
    let was = c.loop-i.invariant in let small = c.requires.fits in
    record { fits = omega (arith, within, was, small) }

pub loop-i-preserved : goal.loop-i-preserved
loop-i-preserved c = ap (λ t. t + num c.args.size.now (get_or c.args.list.now c.loop-i.i-index 0)) c.loop-i.invariant
    ∙ sym (sum_by_more (num c.args.size.now) c.args.list.now c.loop-i.i-index 0 c.loop-i-test.true)
