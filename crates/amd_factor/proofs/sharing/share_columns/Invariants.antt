use Rattle.std.proofs.Common.{ℕ, ◌≡◌, ◌≤◌, length, map, take}
use Rattle.std.specs.Prelude.{slice_index}
use Rattle.amd_types.specs.Naturals.{naturals}
use Rattle.amd_factor.specs.Gathering.{MarksTell}
use Rattle.amd_factor.specs.Sharing.{HasColumnPlaces, Share, TellFirsts}
use Rattle.amd_factor.proofs.sharing.share_columns.Given as goal

abbrev pub ghost-plan_shared : goal.ghost-plan_shared
ghost-plan_shared g a = g.o

abbrev pub ghost-stand_column : goal.ghost-stand_column
ghost-stand_column g a = g.o

abbrev pub invariant-columns : goal.invariant-columns
invariant-columns g l = record {
  columns : Share g.N.Index.value g.o l.k l.lists (take l.used l.rows.items);
  used : l.used ≤ length l.rows.items;
  room : length l.rows.items ≤ l.fn.room;
  places : HasColumnPlaces g.o l.lists;
  firsts : TellFirsts g.o l.k l.lists.starts.items l.lists.ends.items (naturals (map g.N.Index.value (take l.used l.rows.items)))
      l.starts;
  long : length l.starts ≡ length l.fn.starts;
  left : (m : ℕ) → l.k ≤ m → slice_index l.starts m ≡ slice_index l.fn.starts m;
  marks : MarksTell g.o l.k l.marked.column l.marked.stamp l.lists.mark.items;
}
