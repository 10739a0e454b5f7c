use Rattle.std.proofs.Common.{map}
use Rattle.amd_types.specs.Naturals.{naturals}
use Rattle.amd_input.specs.LowerRows.{DropDiagonals}
use Rattle.amd_input.proofs.lower.drop_diagonals.Given as goal

abbrev pub invariant-columns : goal.invariant-columns
invariant-columns g l = DropDiagonals l.size (naturals (map g.I.Index.value l.a_p)) (naturals (map g.I.Index.value l.a_i)) l.k
    l.fn.numbers l.numbers
