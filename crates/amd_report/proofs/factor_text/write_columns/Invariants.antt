-- The lines of the columns so far are written.
use Rattle.std.specs.Io.KnownBytes.{Appends}
use Rattle.amd_report.specs.FactorTexts.{column_lines}
use Rattle.amd_report.proofs.factor_text.write_columns.Given as goal

abbrev pub invariant-columns : goal.invariant-columns
invariant-columns g l =
    Appends (g.W.Write.contents l.fn.out) (g.W.Write.contents l.out) (column_lines l.p l.sizes l.parents l.k)
