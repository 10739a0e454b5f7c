use Rattle.std.proofs.Common.{map}
use Rattle.amd_factor.specs.Partitions.{ordered_matrix}
use Rattle.amd_c_calls.proofs.supernodal.supernodes_and_sizes_into.Given as goal

abbrev pub ghost-matrix_supernodes_into : goal.ghost-matrix_supernodes_into
ghost-matrix_supernodes_into g a = ordered_matrix (g.I.Index.value a.matrix.n) (map g.I.Index.value a.matrix.a_p.now)
    (map g.I.Index.value a.matrix.a_i.now) (map g.I.Index.value a.p.now)
