-- Each turn opens one row more; then come those below.
use Rattle.std.proofs.Common.{◌<◌, ◌≤◌, ◌+◌, ℕ, arith, subst, sym}
use Rattle.std.specs.Prelude.{Contains}
use Rattle.amd_report.specs.Fills.{AreOpened}
use Rattle.amd_report.proofs.Sifting.{opened-all, opened-next}
use Rattle.amd_report.proofs.fills.open_rows.Goals as goal

pub block-preserved : goal.block-preserved
block-preserved g c =
    let a = c.block.auto.row in
    subst (λ z. ((j : ℕ) → c.args.k < j → j < c.block.row + 1 → Contains z j) × ((j : ℕ) → Contains z j → j < c.args.end)
    × (c.block.row + 1 ≤ c.args.end)) (sym c.in_ok-push.ensures.items)
    (opened-next c.args.k c.args.end c.block.row c.block.open.items c.block-test.true (omega (arith, a)) c.block.invariant)

pub returns : goal.returns
returns g c =
    let e = c.block-test.false in
    subst (AreOpened c.args.k c.args.end c.args.below.now) (sym c.in_ok-extend_from_slice.ensures.items)
    (opened-all c.args.k c.args.end c.block.open.items c.args.below.now
    (λ j a b. c.block.invariant.0 j a (omega (arith, b, e))) c.block.invariant.1)
