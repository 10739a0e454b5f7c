use Rattle.std.proofs.Common.{ℕ, ◌≤◌, ◌-◌, ◌⊎◌}
use Rattle.std.specs.Prelude.{slice_index}
use Rattle.amd_factor.specs.Gathering.{IsChild}
use Rattle.amd_factor.proofs.Trees.Descent.{IsAhead, LeadsTo, steps_left}
use Rattle.amd_factor.proofs.children.greatest_child.Given as goal

abbrev pub invariant-children : goal.invariant-children
invariant-children g l = record {
  child : IsChild g.c l.greatest;
  leads : LeadsTo g.c.order g.c.place l.next;
  greatest : (m : ℕ) → IsChild g.c m → IsAhead l.next m ⊎
      (slice_index l.ends m - slice_index l.starts m ≤ slice_index l.ends l.greatest - slice_index l.starts l.greatest);
}

abbrev pub decreases-children : goal.decreases-children
decreases-children g l = steps_left l.next
