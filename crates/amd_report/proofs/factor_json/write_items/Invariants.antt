-- The items of the columns so far are written.
use Rattle.std.specs.Io.KnownBytes.{Appends}
use Rattle.amd_report.specs.FactorJson.{column_items}
use Rattle.amd_report.proofs.factor_json.write_items.Given as goal

abbrev pub invariant-columns : goal.invariant-columns
invariant-columns g l =
    Appends (g.W.Write.contents l.fn.out) (g.W.Write.contents l.out) (column_items l.p l.parents l.sizes l.k)
