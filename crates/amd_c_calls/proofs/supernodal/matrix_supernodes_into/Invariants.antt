use Rattle.amd_c_calls.proofs.supernodal.matrix_supernodes_into.Given as goal

abbrev pub ghost-write_rows : goal.ghost-write_rows
ghost-write_rows g a = g.m
