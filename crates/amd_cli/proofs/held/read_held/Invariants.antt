-- The lines so far were read, and the rows that they are, marked.
use Rattle.amd_cli.proofs.HeldLemmas.{HeldSoFar}
use Rattle.amd_cli.proofs.held.read_held.Given as goal

abbrev pub invariant-rows : goal.invariant-rows
invariant-rows g l = HeldSoFar g.R.Read.remaining l.initial.lines l.lines l.n l.marks.items
