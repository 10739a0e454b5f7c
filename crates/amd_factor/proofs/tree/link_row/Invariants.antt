use Rattle.std.proofs.Common.{ℕ, ◌<◌}
use Rattle.std.specs.Prelude.{slice_index}
use Rattle.amd_factor.specs.Ancestors.{Climbing, IsDone}
use Rattle.amd_factor.proofs.tree.link_row.Given as goal

abbrev pub ghost-climb : goal.ghost-climb
ghost-climb g a = g.o

abbrev pub invariant-earlier : goal.invariant-earlier
invariant-earlier g l = record {
  climbing : Climbing g.o l.i l.i l.parent l.ancestor;
  done : (s : ℕ) → s < l.j-index → IsDone g.o l.i l.parent (slice_index l.earlier s);
}
