use Rattle.amd_factor.specs.Partitions.{order_of}
use Rattle.amd_factor.proofs.rows_below.write_rows.Given as goal

abbrev pub ghost-fill_rows : goal.ghost-fill_rows
ghost-fill_rows g a = record {
  order = order_of g.m;
  first = a.cut.now.first.now;
  owner = a.cut.now.owner.now;
  ptr = a.cut.now.ptr.now;
  parent = a.cut.now.parent.now;
}
