use Rattle.std.proofs.Common.{ℕ, ◌≡◌, ◌<◌, ◌≤◌, ◌⊎◌, length, take}
use Rattle.std.specs.Prelude.{slice_index}
use Rattle.amd_factor.specs.Trees.{Entry}
use Rattle.amd_factor.specs.Gathering.{IsChild, Marks}
use Rattle.amd_factor.proofs.Trees.Descent.{IsAhead, LeadsTo, steps_left}
use Rattle.amd_factor.proofs.column.gather_children.Given as goal

abbrev pub ghost-gather : goal.ghost-gather
ghost-gather g a = g.c

abbrev pub invariant-children : goal.invariant-children
invariant-children g l = record {
  count : l.count ≤ length l.fresh;
  leads : LeadsTo g.c.order g.c.place l.next;
  marks : Marks g.c l.stamp (take l.count l.fresh) l.mark;
  kept : (j : ℕ) → slice_index l.initial.mark j ≡ l.stamp → slice_index l.mark j ≡ l.stamp;
  done : (m j : ℕ) → IsChild g.c m → g.c.place < j → Entry g.c.order.graph g.c.order.rows m j →
      IsAhead l.next m ⊎ (slice_index l.mark j ≡ l.stamp);
}

abbrev pub decreases-children : goal.decreases-children
decreases-children g l = steps_left l.next
