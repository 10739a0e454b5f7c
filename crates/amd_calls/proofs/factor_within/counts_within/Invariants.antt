use Rattle.std.proofs.Common.{map, length}
use Rattle.amd_model.specs.Input.Pattern.{graph_of}
use Rattle.amd_types.specs.Naturals.{naturals}
use Rattle.amd_calls.proofs.factor_within.counts_within.Given as goal

abbrev pub ghost-counts_inside : goal.ghost-counts_inside
ghost-counts_inside g a = record {
  graph = graph_of (length a.counts.now) (map g.I.Index.value a.a_p.now) (map g.I.Index.value a.a_i.now);
  rows = naturals (map g.I.Index.value a.p.now);
}
