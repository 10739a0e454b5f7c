use Rattle.std.proofs.Common.{map, length}
use Rattle.amd_model.specs.Input.Pattern.{graph_of}
use Rattle.amd_types.specs.Naturals.{naturals}
use Rattle.amd_calls.proofs.factor_within.columns_within.Given as goal

abbrev pub ghost-columns_inside : goal.ghost-columns_inside
ghost-columns_inside g a = record {
  graph = graph_of (length a.parents.now) (map g.I.Index.value a.a_p.now) (map g.I.Index.value a.a_i.now);
  rows = naturals (map g.I.Index.value a.p.now);
}
