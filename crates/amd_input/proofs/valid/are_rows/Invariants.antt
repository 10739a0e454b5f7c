use Rattle.std.proofs.Common.{map}
use Rattle.amd_input.specs.Scans.{AreRowNumbers}
use Rattle.amd_input.proofs.valid.are_rows.Given as goal

abbrev pub invariant-rows : goal.invariant-rows
invariant-rows g l = AreRowNumbers (g.I.Index.value l.n_row) (map g.I.Index.value l.a_i) l.from l.k
