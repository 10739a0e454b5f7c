-- One supernode more is laid.
use Rattle.std.proofs.Common.{length, arith, refl}
use Rattle.amd_report.proofs.Laying.{lay-fits, lay-next}
use Rattle.amd_report.proofs.layout.lay_one.Goals as goal

pub overflow_add-next : goal.overflow_add-next
overflow_add-next c =
    let laid = c.requires.laid in
    let f = lay-fits laid.0 c.args.up.now c.args.width.now c.args.left.now c.args.level.now c.args.next.now c.args.s _
    c.requires.rises laid.1 c.requires.place laid.2 refl in
    let w = c.type_inv.width (length c.args.up.now) in omega (arith, f, w)

pub returns : goal.returns
returns c first widths laid =
    lay-next first c.args.up.now c.args.width.now c.args.left.now c.args.level.now c.args.next.now c.args.s _
    c.requires.rises widths c.requires.place laid refl
