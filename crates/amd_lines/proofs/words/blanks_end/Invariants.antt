-- The bytes so far are white space.
use Rattle.amd_lines.specs.Words.{AreBlanks}
use Rattle.amd_lines.proofs.words.blanks_end.Given as goal

abbrev pub invariant-bytes : goal.invariant-bytes
invariant-bytes l = AreBlanks l.text l.place
