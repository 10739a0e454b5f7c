use Rattle.amd_factor.proofs.sharing.stand_column.Given as goal

abbrev pub ghost-link_child : goal.ghost-link_child
ghost-link_child g a = g.o
