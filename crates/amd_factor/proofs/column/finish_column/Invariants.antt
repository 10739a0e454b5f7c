use Rattle.amd_factor.proofs.column.finish_column.Given as goal

abbrev pub ghost-close_column : goal.ghost-close_column
ghost-close_column g a = g.o
