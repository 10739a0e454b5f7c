-- The bytes of the line so far were passed, and what they tell of it is known.
use Rattle.amd_lines.proofs.NoteLemmas.{Passing}
use Rattle.amd_lines.proofs.lines.LineReader.pass_note.Given as goal

abbrev pub invariant-pieces : goal.invariant-pieces
invariant-pieces g l = Passing l.fn.mark g.R.Read.remaining l.fn.self l.self l.told
