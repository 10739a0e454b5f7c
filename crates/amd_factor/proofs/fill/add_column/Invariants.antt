use Rattle.amd_factor.proofs.fill.add_column.Given as goal

abbrev pub ghost-plan_behind : goal.ghost-plan_behind
ghost-plan_behind g a = g.o

abbrev pub ghost-finish_column : goal.ghost-finish_column
ghost-finish_column g a = g.o
