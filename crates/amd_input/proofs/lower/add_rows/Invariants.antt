use Rattle.std.proofs.Common.{map}
use Rattle.amd_types.specs.Naturals.{naturals}
use Rattle.amd_input.specs.LowerRows.{CountRows}
use Rattle.amd_input.proofs.lower.add_rows.Given as goal

abbrev pub invariant-places : goal.invariant-places
invariant-places g l = CountRows (naturals (map g.I.Index.value l.a_i)) l.q l.fn.numbers l.numbers
