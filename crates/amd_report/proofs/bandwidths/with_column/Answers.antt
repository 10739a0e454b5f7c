-- The first entry and the last one tell how far the others are from the diagonal.
use Rattle.std.proofs.Common.{◌+◌, ◌-◌, arith}
use Rattle.std.specs.Prelude.{slice_index}
use Rattle.amd_report.specs.Shapes.{above, below}
use Rattle.amd_report.proofs.Widths.{most-column, most-kept}
use Rattle.amd_report.proofs.bandwidths.with_column.Goals as goal

pub returns-then-begin-end-clause-lower : goal.returns-then-begin-end-clause-lower
returns-then-begin-end-clause-lower c =
    most-kept c.args.a_p.now c.args.a_i.now below c.args.column c.args.widths.lower c.if-begin-end.true c.requires.lower

pub returns-then-begin-end-clause-upper : goal.returns-then-begin-end-clause-upper
returns-then-begin-end-clause-upper c =
    most-kept c.args.a_p.now c.args.a_i.now above c.args.column c.args.widths.upper c.if-begin-end.true c.requires.upper

pub returns-clause-lower : goal.returns-clause-lower
returns-clause-lower c =
    let order = c.requires.form.order c.args.column c.requires.inside in
    let some = c.if-begin-end.false in
    let first = c.with_entry-wider.ensures.lower in
    let second = c.with_entry.ensures.lower in
    most-column c.args.a_p.now c.args.a_i.now below c.args.n c.requires.form c.args.column c.requires.inside
    (slice_index c.args.a_p.now (c.args.column + 1) - 1) (omega (arith, order, some)) (omega (arith, order, some))
    c.args.widths.lower c.with_entry.result.lower (omega (arith, first, second)) (λ i low high. omega (arith, low, high)) c.requires.lower

pub returns-clause-upper : goal.returns-clause-upper
returns-clause-upper c =
    let order = c.requires.form.order c.args.column c.requires.inside in
    let some = c.if-begin-end.false in
    let first = c.with_entry-wider.ensures.upper in
    let second = c.with_entry.ensures.upper in
    most-column c.args.a_p.now c.args.a_i.now above c.args.n c.requires.form c.args.column c.requires.inside
    (slice_index c.args.a_p.now (c.args.column + 1) - 1) (omega (arith, order, some)) (omega (arith, order, some))
    c.args.widths.upper c.with_entry.result.upper (omega (arith, first, second)) (λ i low high. omega (arith, low, high)) c.requires.upper
