use Rattle.amd_factor.proofs.sizing.matrix_sizes.Given as goal

abbrev pub ghost-cut_sizes : goal.ghost-cut_sizes
ghost-cut_sizes g a = g.o
