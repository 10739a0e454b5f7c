use Rattle.amd_factor.proofs.inside.columns_inside.Given as goal

abbrev pub ghost-lent_sizes : goal.ghost-lent_sizes
ghost-lent_sizes g a = g.o

abbrev pub ghost-lent_columns : goal.ghost-lent_columns
ghost-lent_columns g a = g.o
