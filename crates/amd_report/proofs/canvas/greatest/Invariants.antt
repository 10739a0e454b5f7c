-- The greatest one of the numbers so far.
use Rattle.std.proofs.Common.{◌≡◌, take}
use Rattle.std.specs.Prelude.{max, fold}
use Rattle.amd_report.proofs.canvas.greatest.Given as goal

abbrev pub invariant-numbers : goal.invariant-numbers
invariant-numbers l = l.most ≡ fold max 0 (take l.number-index l.numbers)
