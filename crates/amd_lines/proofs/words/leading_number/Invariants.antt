-- The bytes so far are digits of the number.
use Rattle.amd_lines.specs.Words.{LeadsNumber}
use Rattle.amd_lines.proofs.words.leading_number.Given as goal

abbrev pub invariant-digits : goal.invariant-digits
invariant-digits l = LeadsNumber l.text l.place l.number
