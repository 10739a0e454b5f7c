-- The line of the size stands before the entries.
use Rattle.amd_cli.proofs.PlacedLines.{listed-whole}
use Rattle.amd_cli.proofs.valued.write_listed.Goals as goal

pub returns : goal.returns
returns g c =
    listed-whole _ _ _ _ _ _ _ _ _ _ (rw c.if-not-branch.false at c.in_ok-next_line.ensures)
    (rw c.line.ensures at c.in_ok-write_line.ensures) c.in_ok-write_entries.ensures
