-- The numbers are those of the bytes that were read, one for each turn.
use Rattle.std.proofs.Common.{◌≡◌, length, map}
use Rattle.amd_cases.specs.Matrices.{wide_of, ReadsNumbers}
use Rattle.amd_cases.proofs.matrix.wide_numbers.Given as goal

abbrev pub invariant-numbers : goal.invariant-numbers
invariant-numbers g l = ReadsNumbers 8 wide_of (g.R.Read.remaining l.fn.input) (g.R.Read.remaining l.input)
    (map g.I.Index.value l.numbers.items) × (length l.numbers.items ≡ l._done)
