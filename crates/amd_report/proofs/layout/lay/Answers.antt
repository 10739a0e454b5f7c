-- Each turn lays one supernode more.
use Rattle.std.proofs.Common.{◌≡◌, ◌+◌, ◌-◌, arith, subst}
use Rattle.amd_report.specs.Layouts.{AreLaid}
use Rattle.amd_report.proofs.Laying.{laid-none}
use Rattle.amd_report.proofs.layout.lay.Goals as goal

pub supernodes-init : goal.supernodes-init
supernodes-init c first widths =
    laid-none first c.args.up.now c.args.width.now c.args.left.now c.args.level.now c.args.next.now c.requires.rises widths
    c.requires.lefts c.requires.levels c.requires.nexts

pub lay_one-requires-clause-place : goal.lay_one-requires-clause-place
lay_one-requires-clause-place c =
    let w = c.requires.widths in let l = (c.supernodes.invariant w.0 w.1).reached in let t = c.supernodes-test.true in
    omega (arith, l, t)

pub lay_one-requires-clause-laid : goal.lay_one-requires-clause-laid
lay_one-requires-clause-laid c =
    let e : c.supernodes.s ≡ c.supernodes.s - 1 + 1 = (let t = c.supernodes-test.true in omega (arith, t)) in
    let w = c.requires.widths in (
      w.0,
      w.1,
      subst (AreLaid w.0 c.args.up.now c.args.width.now c.supernodes.left c.supernodes.level c.supernodes.next) e
          (c.supernodes.invariant w.0 w.1),
    )

pub supernodes-preserved : goal.supernodes-preserved
supernodes-preserved c first widths =
    let e : c.supernodes.s ≡ c.supernodes.s - 1 + 1 = (let t = c.supernodes-test.true in omega (arith, t)) in
    c.lay_one.ensures first widths
    (subst (AreLaid first c.args.up.now c.args.width.now c.supernodes.left c.supernodes.level c.supernodes.next) e
    (c.supernodes.invariant first widths))

pub returns : goal.returns
returns c first widths =
    let e : c.supernodes.s ≡ 0 = (let t = c.supernodes-test.false in omega (arith, t)) in
    subst (AreLaid first c.args.up.now c.args.width.now c.supernodes.left c.supernodes.level c.supernodes.next) e
    (c.supernodes.invariant first widths)
