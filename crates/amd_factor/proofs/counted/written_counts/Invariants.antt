use Rattle.amd_factor.proofs.counted.written_counts.Given as goal

abbrev pub ghost-thinned_sizes : goal.ghost-thinned_sizes
ghost-thinned_sizes g a = g.o
