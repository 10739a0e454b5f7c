use Rattle.amd_factor.proofs.supernodal.form_partition.Given as goal

abbrev pub ghost-thinned_sizes : goal.ghost-thinned_sizes
ghost-thinned_sizes g a = g.o

abbrev pub ghost-cut_places : goal.ghost-cut_places
ghost-cut_places g a = g.o
