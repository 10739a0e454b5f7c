use Rattle.std.proofs.Common.{map}
use Rattle.amd_model.specs.Input.Pattern.{graph_of}
use Rattle.amd_types.specs.Naturals.{naturals}
use Rattle.amd_factor.proofs.into.columns_into.Given as goal

abbrev pub ghost-form_columns_into : goal.ghost-form_columns_into
ghost-form_columns_into g a = record {
  graph = graph_of a.size (map g.I.Number.value a.a_p.now) (map g.I.Number.value a.a_i.now);
  rows = naturals (map g.I.Number.value a.p.now);
}
