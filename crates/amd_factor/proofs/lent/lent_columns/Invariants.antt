use Rattle.amd_factor.proofs.lent.lent_columns.Given as goal

abbrev pub ghost-fill_into : goal.ghost-fill_into
ghost-fill_into g a = g.o
