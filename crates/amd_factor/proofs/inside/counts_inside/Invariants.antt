use Rattle.amd_factor.proofs.inside.counts_inside.Given as goal

abbrev pub ghost-lent_sizes : goal.ghost-lent_sizes
ghost-lent_sizes g a = g.o
