-- The lines so far were read, and have the numbers.
use Rattle.amd_cli.specs.Orders.{SpellsListed}
use Rattle.amd_cli.proofs.ListedLines.{ThingsSoFar}
use Rattle.amd_cli.proofs.listed.read_listed.Given as goal

abbrev pub invariant-list : goal.invariant-list
invariant-list g l = ThingsSoFar g.R.Read.remaining (SpellsListed l.n) l.initial.lines l.lines l.listed.items
