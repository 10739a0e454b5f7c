use Rattle.amd_factor.proofs.into.written_into.Given as goal

abbrev pub ghost-fill_into : goal.ghost-fill_into
ghost-fill_into g a = g.o

abbrev pub ghost-factor_lists : goal.ghost-factor_lists
ghost-factor_lists g a = g.o
