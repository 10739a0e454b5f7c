use Rattle.amd_engine_tests.proofs.Forests.{ArePlaced}
use Rattle.amd_engine_tests.proofs.tests.trees.is_forest.Given as goal

abbrev pub invariant-elements : goal.invariant-elements
invariant-elements l = ArePlaced l.nn l.parent l.nv l.f_size l.rank l.e
