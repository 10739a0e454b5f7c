use Rattle.amd_calls.proofs.factor_within.columns_inside.Given as goal

abbrev pub ghost-lent_columns : goal.ghost-lent_columns
ghost-lent_columns g a = g.o
