use Rattle.std.proofs.Common.{map}
use Rattle.amd_types.specs.Naturals.{naturals}
use Rattle.amd_factor.specs.Numbers.{AreNonNegative}
use Rattle.amd_factor.specs.Partitions.{MarkedBefore, WrittenTo}
use Rattle.amd_factor.proofs.below.fill_rows.Given as goal

abbrev pub ghost-add_row : goal.ghost-add_row
ghost-add_row g a = g.b

abbrev pub invariant-rows : goal.invariant-rows
invariant-rows g l = record {
  written : WrittenTo g.b l.j l.next (naturals (map g.I.Index.value l.rows));
  told : AreNonNegative (map g.I.Index.value l.rows);
  marks : MarkedBefore g.b l.j l.mark;
}
