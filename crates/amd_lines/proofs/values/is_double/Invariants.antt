-- The bytes before brought the reader to its state.
use Rattle.std.proofs.Common.{◌≡◌, drop}
use Rattle.std.specs.Prelude.{map}
use Rattle.std.specs.Float.Parse.{completes_number, without_sign}
use Rattle.amd_lines.specs.Words.{exponent_mark}
use Rattle.amd_lines.proofs.values.is_double.Given as goal

abbrev pub invariant-bytes : goal.invariant-bytes
invariant-bytes l =
    completes_number 0 (map exponent_mark (without_sign l.word)) ≡ completes_number l.state (map exponent_mark (drop l.byte-index l.body))
