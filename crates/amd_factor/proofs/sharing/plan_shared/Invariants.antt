use Rattle.amd_factor.proofs.sharing.plan_shared.Given as goal

abbrev pub ghost-plan_column : goal.ghost-plan_column
ghost-plan_column g a = g.o
