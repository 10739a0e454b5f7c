use Rattle.std.proofs.Common.{ℕ, ◌≡◌, ◌-◌, ◌⊎◌, map}
use Rattle.std.specs.Prelude.{slice_index}
use Rattle.amd_types.specs.Naturals.{naturals}
use Rattle.amd_factor.specs.Numbers.{AreNonNegative}
use Rattle.amd_factor.specs.Partitions.{Climbs, IsMarkedBy}
use Rattle.amd_factor.proofs.below.climb.Given as goal

abbrev pub ghost-put_row : goal.ghost-put_row
ghost-put_row g a = g.b

abbrev pub invariant-up : goal.invariant-up
invariant-up g l = record {
  climbs : Climbs g.b l.j l.s l.next l.mark (naturals (map g.I.Index.value l.rows));
  told : AreNonNegative (map g.I.Index.value l.rows);
  marked : IsMarkedBy l.mark l.j l.from ⊎ (l.from ≡ l.s);
  kept : (t : ℕ) → IsMarkedBy l.initial.mark l.j t → IsMarkedBy l.mark l.j t;
}

abbrev pub decreases-up : goal.decreases-up
decreases-up g l = slice_index g.b.owner l.j - l.s
