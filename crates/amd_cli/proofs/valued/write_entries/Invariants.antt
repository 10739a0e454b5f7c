-- The entries so far were read and written.
use Rattle.amd_cli.proofs.PlacedLines.{PlacedSoFar}
use Rattle.amd_cli.proofs.valued.write_entries.Given as goal

abbrev pub invariant-entries : goal.invariant-entries
invariant-entries g l = PlacedSoFar g.R.Read.remaining l.fn.lines l.lines l.header l.places l.fn.out.items l.out.items
