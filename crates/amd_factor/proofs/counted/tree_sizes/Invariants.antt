use Rattle.amd_factor.proofs.counted.tree_sizes.Given as goal

abbrev pub ghost-turned_lists : goal.ghost-turned_lists
ghost-turned_lists g a = g.at.1

abbrev pub ghost-count_by_tree : goal.ghost-count_by_tree
ghost-count_by_tree g a = g.at
