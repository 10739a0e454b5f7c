use Rattle.amd_factor.proofs.partition.cut_places.Given as goal

abbrev pub ghost-write_cut : goal.ghost-write_cut
ghost-write_cut g a = g.o
