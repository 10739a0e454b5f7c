use Rattle.amd_factor.proofs.supernodal.matrix_supernodes.Given as goal

abbrev pub ghost-write_rows : goal.ghost-write_rows
ghost-write_rows g a = g.m
