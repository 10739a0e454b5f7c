use Rattle.std.proofs.Common.{ℕ, ◌≡◌, ◌<◌, ◌≤◌, length, map, take}
use Rattle.std.specs.Prelude.{slice_index}
use Rattle.amd_types.specs.Naturals.{naturals}
use Rattle.amd_factor.specs.Gathering.{Marks}
use Rattle.amd_factor.proofs.gathering.gather.Given as goal

abbrev pub ghost-list_row : goal.ghost-list_row
ghost-list_row g a = g.c

abbrev pub invariant-rows : goal.invariant-rows
invariant-rows g l = record {
  listed : l.listed ≤ length l.fresh;
  marks : Marks g.c l.stamp (take l.listed l.fresh) l.mark;
  all : (i : ℕ) → i < l.k → slice_index l.mark (slice_index (naturals (map g.N.Index.value l.rows)) i) ≡ l.stamp;
  kept : (j : ℕ) → slice_index l.initial.mark j ≡ l.stamp → slice_index l.mark j ≡ l.stamp;
}
