use Rattle.std.proofs.Common.{map}
use Rattle.amd_model.specs.Input.Pattern.{graph_of}
use Rattle.amd_types.specs.Naturals.{naturals}
use Rattle.amd_factor.proofs.supernodal.supernode_partition.Given as goal

abbrev pub ghost-form_partition : goal.ghost-form_partition
ghost-form_partition g a = record {
  graph = graph_of a.size (map g.I.Index.value a.a_p.now) (map g.I.Index.value a.a_i.now);
  rows = naturals (map g.I.Index.value a.p.now);
}
