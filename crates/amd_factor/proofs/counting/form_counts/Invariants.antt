use Rattle.amd_factor.proofs.counting.form_counts.Given as goal

abbrev pub ghost-written_counts : goal.ghost-written_counts
ghost-written_counts g a = g.o

abbrev pub ghost-form_shared : goal.ghost-form_shared
ghost-form_shared g a = g.o
