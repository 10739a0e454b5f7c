use Rattle.std.proofs.Common.{◌≡◌, ◌≤◌, length}
use Rattle.std.specs.Prelude.{slice_index}
use Rattle.std.specs.Vec.{vec_capacity}
use Rattle.amd_factor.specs.Numbers.{FillsFront, KeepsLoans}
use Rattle.amd_factor.proofs.fill.fill.Given as goal

abbrev pub ghost-clear_lists : goal.ghost-clear_lists
ghost-clear_lists g a = g.o

abbrev pub ghost-add_column : goal.ghost-add_column
ghost-add_column g a = g.o

abbrev pub invariant-columns : goal.invariant-columns
invariant-columns g l = record {
  filled : FillsFront g.N.Index.value g.o l.k l.lists l.rows.items l.marked l.mark;
  full : slice_index l.lists.ptr.now l.k ≡ length l.rows.items;
  within : length l.rows.items ≤ l.room;
  capacity : vec_capacity l.rows ≡ vec_capacity l.fn.rows;
  loans : KeepsLoans l.initial.lists l.lists;
}
