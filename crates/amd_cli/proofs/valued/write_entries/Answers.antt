-- Each turn reads and writes one entry more.
use Rattle.amd_cli.proofs.PlacedLines.{placed-next, placed-none, placed-whole}
use Rattle.amd_cli.proofs.valued.write_entries.Goals as goal

pub entries-init : goal.entries-init
entries-init g c = placed-none _ _ _ _ _

pub returns-then-not-branch : goal.returns-then-not-branch
returns-then-not-branch g c =
    placed-whole _ _ _ _ _ _ _ _ c.entries.invariant (rw c.if-not-branch.true at c.in_ok-next_line.ensures)

pub entries-preserved : goal.entries-preserved
entries-preserved g c =
    let wrote = c.in_ok-write_entry.ensures in
    placed-next _ _ _ _ _ _ _ _ _ _ wrote.0 c.entries.invariant (rw c.if-not-branch.false at c.in_ok-next_line.ensures)
    (rw c.line.ensures at wrote.1) wrote.2
