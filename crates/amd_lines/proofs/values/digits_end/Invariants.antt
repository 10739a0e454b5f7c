-- The bytes so far are digits.
use Rattle.std.proofs.Common.{◌+◌}
use Rattle.amd_lines.specs.Words.{HasDigits}
use Rattle.amd_lines.proofs.values.digits_end.Given as goal

abbrev pub invariant-digits : goal.invariant-digits
invariant-digits l = HasDigits l.text l.begin (l.begin + l.place)
