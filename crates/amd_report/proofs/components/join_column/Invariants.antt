-- The classes with the entries so far.
use Rattle.std.proofs.Common.{◌≡◌, length}
use Rattle.amd_model.specs.Graph.{Graph}
use Rattle.amd_report.specs.Passes.{AreMarkedClasses, Connects}
use Rattle.amd_report.proofs.components.join_column.Given as goal

abbrev pub invariant-places : goal.invariant-places
invariant-places l = record {
  size : length l.links ≡ length l.fn.links;
  classes : (g : Graph) → Connects g (length l.fn.links) l.a_p l.a_i → AreMarkedClasses g l.a_p l.a_i l.column 0 l.marks l.fn.links →
      AreMarkedClasses g l.a_p l.a_i l.column l.place l.marks l.links;
}
