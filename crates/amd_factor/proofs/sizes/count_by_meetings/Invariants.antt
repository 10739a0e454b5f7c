use Rattle.amd_factor.proofs.sizes.count_by_meetings.Given as goal

abbrev pub ghost-elimination_tree : goal.ghost-elimination_tree
ghost-elimination_tree g a = g.o

abbrev pub ghost-count_by_tree : goal.ghost-count_by_tree
ghost-count_by_tree g a = (g.o, g.o)
