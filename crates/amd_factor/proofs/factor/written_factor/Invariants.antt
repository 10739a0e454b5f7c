use Rattle.amd_factor.proofs.factor.written_factor.Given as goal

abbrev pub ghost-fill : goal.ghost-fill
ghost-fill g a = g.o

abbrev pub ghost-factor_lists : goal.ghost-factor_lists
ghost-factor_lists g a = g.o
