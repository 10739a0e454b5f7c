-- The lines of the columns so far are written.
use Rattle.std.specs.Io.KnownBytes.{Appends}
use Rattle.amd_report.specs.Patterns.{matrix_entries}
use Rattle.amd_report.proofs.pattern.write_entries.Given as goal

abbrev pub invariant-columns : goal.invariant-columns
invariant-columns g l =
    Appends (g.W.Write.contents l.fn.out) (g.W.Write.contents l.out) (matrix_entries l.matrix.a_p.items l.matrix.a_i.items l.j)
