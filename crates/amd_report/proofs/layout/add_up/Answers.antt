-- Each turn adds one supernode more.
use Rattle.std.proofs.Common.{arith}
use Rattle.amd_report.proofs.Laying.{adding-all, adding-next, adding-none}
use Rattle.amd_report.proofs.layout.add_up.Goals as goal

pub supernodes-init : goal.supernodes-init
supernodes-init c = adding-none c.args.up.now c.args.width.now

pub supernodes-preserved : goal.supernodes-preserved
supernodes-preserved c =
    adding-next c.args.up.now c.args.width.now c.supernodes.width c.supernodes.s c.in-Some.sum c.requires.rises c.requires.room
    c.supernodes-test.true c.supernodes.invariant c.in-Some.ensures.1

pub returns : goal.returns
returns c _ = adding-all c.args.up.now c.args.width.now c.supernodes.width c.supernodes.s c.supernodes.invariant
    (let a = c.supernodes-test.false in let b = c.supernodes.auto.s-end in omega (arith, a, b))
