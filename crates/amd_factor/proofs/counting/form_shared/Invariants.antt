use Rattle.amd_factor.proofs.counting.form_shared.Given as goal

abbrev pub ghost-shared_counts : goal.ghost-shared_counts
ghost-shared_counts g a = g.o
