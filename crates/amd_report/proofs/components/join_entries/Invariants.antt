-- The classes with the entries of the columns so far.
use Rattle.std.proofs.Common.{◌≡◌, length}
use Rattle.amd_model.specs.Graph.{Graph}
use Rattle.amd_report.specs.Passes.{AreMarkedClasses, Connects}
use Rattle.amd_report.proofs.components.join_entries.Given as goal

abbrev pub invariant-columns : goal.invariant-columns
invariant-columns l = record {
  size : length l.links ≡ l.n;
  classes : (g : Graph) → Connects g l.n l.a_p l.a_i → AreMarkedClasses g l.a_p l.a_i 0 0 l.marks l.fn.links →
      AreMarkedClasses g l.a_p l.a_i l.column 0 l.marks l.links;
}
