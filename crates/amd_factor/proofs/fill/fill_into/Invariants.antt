use Rattle.std.proofs.Common.{◌≡◌, drop, length}
use Rattle.std.specs.Prelude.{slice_index}
use Rattle.amd_factor.specs.Numbers.{FillsFront, KeepsLoans}
use Rattle.amd_factor.proofs.fill.fill_into.Given as goal

abbrev pub ghost-clear_lists : goal.ghost-clear_lists
ghost-clear_lists g a = g.o

abbrev pub ghost-add_column_into : goal.ghost-add_column_into
ghost-add_column_into g a = g.o

abbrev pub invariant-columns : goal.invariant-columns
invariant-columns g l = record {
  filled : FillsFront g.N.Index.value g.o l.k l.lists l.rows l.marked l.mark;
  room : length l.rows ≡ length l.initial.rows;
  rest : drop (slice_index l.lists.ptr.now l.k) l.rows ≡ drop (slice_index l.lists.ptr.now l.k) l.initial.rows;
  loans : KeepsLoans l.initial.lists l.lists;
}
