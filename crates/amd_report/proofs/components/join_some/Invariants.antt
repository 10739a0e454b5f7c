-- The classes are classes of the graph.
use Rattle.std.proofs.Common.{◌≡◌, length}
use Rattle.amd_model.specs.Graph.{Graph}
use Rattle.amd_report.specs.Passes.{AreClasses, Connects}
use Rattle.amd_report.proofs.components.join_some.Given as goal

abbrev pub invariant-columns : goal.invariant-columns
invariant-columns l = record {
  size : length l.links ≡ l.n;
  classes : (g : Graph) → Connects g l.n l.a_p l.a_i → AreClasses g l.a_p l.a_i 0 0 l.fn.links → AreClasses g l.a_p l.a_i 0 0 l.links;
}
