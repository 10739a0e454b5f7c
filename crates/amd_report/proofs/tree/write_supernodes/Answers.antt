-- Each turn writes one line more.
use Rattle.std.proofs.Common.{◌+◌, ap}
use Rattle.amd_report.proofs.FactorLines.{supernodes-next}
use Rattle.amd_report.proofs.tree.write_supernodes.Goals as goal

pub supernodes-preserved : goal.supernodes-preserved
supernodes-preserved g c =
    let above = rw c.parent_at.ensures at c.tree_number-parent.ensures in
    let below = rw (c.number_at-in-supernodes.ensures, c.number_at-in-supernodes-2.ensures) at c.saturating_sub-rows.ensures in
    supernodes-next c.args.first.now c.args.ptr.now c.args.parents.now c.supernodes.s _ _ _ _ _ _ _
    (ap (λ x. x + 1) c.number_at.ensures) c.number_at-last.ensures above below c.supernodes.invariant c.in_ok-writeln.ensures.bytes
