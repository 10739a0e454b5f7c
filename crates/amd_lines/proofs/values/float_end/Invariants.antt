-- The bytes so far are scanned.
use Rattle.amd_lines.specs.Words.{Scanned}
use Rattle.amd_lines.proofs.values.float_end.Given as goal

abbrev pub invariant-bytes : goal.invariant-bytes
invariant-bytes l = Scanned l.text l.place l.state
