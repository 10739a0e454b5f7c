use Rattle.std.proofs.Common.{map}
use Rattle.amd_factor.specs.Partitions.{ordered_matrix}
use Rattle.amd_factor.proofs.supernodal.supernodes.Given as goal

abbrev pub ghost-matrix_supernodes : goal.ghost-matrix_supernodes
ghost-matrix_supernodes g a = ordered_matrix (g.I.Number.value a.n) (map g.I.Number.value a.a_p.now) (map g.I.Number.value a.a_i.now)
    (map g.I.Number.value a.p.now)
