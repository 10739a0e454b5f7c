use Rattle.std.proofs.Common.{ℕ, ◌<◌, map}
use Rattle.std.specs.Prelude.{slice_index}
use Rattle.amd_types.specs.Naturals.{naturals}
use Rattle.amd_factor.specs.Numbers.{AreNonNegative}
use Rattle.amd_factor.specs.Partitions.{Climbs, IsMarkedBy}
use Rattle.amd_factor.proofs.below.add_row.Given as goal

abbrev pub ghost-climb : goal.ghost-climb
ghost-climb g a = g.b

abbrev pub invariant-earlier : goal.invariant-earlier
invariant-earlier g l = record {
  climbs : Climbs g.b l.j (slice_index g.b.owner l.j) l.next l.mark (naturals (map g.I.Index.value l.rows));
  told : AreNonNegative (map g.I.Index.value l.rows);
  marked : (s : ℕ) → s < l.i-index → IsMarkedBy l.mark l.j (slice_index g.b.owner (slice_index l.earlier s));
}
