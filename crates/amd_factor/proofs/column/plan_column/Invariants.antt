use Rattle.std.specs.Prelude.{slice_range}
use Rattle.std.proofs.Common.{[], map}
use Rattle.amd_types.specs.Naturals.{naturals}
use Rattle.amd_factor.proofs.column.plan_column.Given as goal

abbrev pub ghost-greatest_child : goal.ghost-greatest_child
ghost-greatest_child g a = record { order = g.o; place = a.k; inherited = [] }

abbrev pub ghost-new_rows : goal.ghost-new_rows
ghost-new_rows g a = record {
  order = g.o;
  place = a.k;
  inherited = slice_range (naturals (map g.N.Index.value a.columns.rows.now)) a.taken.from a.taken.to;
}
