use Rattle.amd_factor.proofs.Meetings.ThinRows.{Thinning}
use Rattle.amd_factor.proofs.thinning.thin_lists.Given as goal

abbrev pub invariant-rows : goal.invariant-rows
invariant-rows g l = record {
  thinning : Thinning g.o l.fn.starts l.fn.lists l.starts l.lists l.mark l.i l.begin l.first;
}
