use Rattle.std.proofs.Common.{map}
use Rattle.std.specs.Prelude.{unsigned_abs}
use Rattle.amd_model.specs.Input.Pattern.{graph_of}
use Rattle.amd_types.specs.Naturals.{naturals}
use Rattle.amd_factor.proofs.sizing.supernode_sizes.Given as goal

abbrev pub ghost-matrix_sizes : goal.ghost-matrix_sizes
ghost-matrix_sizes g a = record {
  graph = graph_of (unsigned_abs (g.I.Number.value a.n)) (map g.I.Number.value a.a_p.now) (map g.I.Number.value a.a_i.now);
  rows = naturals (map g.I.Number.value a.p.now);
}
