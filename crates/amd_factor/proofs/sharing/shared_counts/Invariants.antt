use Rattle.amd_factor.proofs.sharing.shared_counts.Given as goal

abbrev pub ghost-shared_lists : goal.ghost-shared_lists
ghost-shared_lists g a = g.o

abbrev pub ghost-share_columns : goal.ghost-share_columns
ghost-share_columns g a = g.o
