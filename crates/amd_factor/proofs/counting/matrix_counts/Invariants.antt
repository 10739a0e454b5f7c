use Rattle.std.proofs.Common.{map}
use Rattle.amd_model.specs.Input.Pattern.{graph_of}
use Rattle.amd_types.specs.Naturals.{naturals}
use Rattle.amd_factor.proofs.counting.matrix_counts.Given as goal

abbrev pub ghost-form_counts : goal.ghost-form_counts
ghost-form_counts g a = record {
  graph = graph_of a.size (map g.I.Index.value a.a_p.now) (map g.I.Index.value a.a_i.now);
  rows = naturals (map g.I.Index.value a.p.now);
}
