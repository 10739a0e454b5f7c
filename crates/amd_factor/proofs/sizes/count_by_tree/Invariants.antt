use Rattle.amd_factor.proofs.sizes.count_by_tree.Given as goal

abbrev pub ghost-sweep : goal.ghost-sweep
ghost-sweep g a = record { order = g.at.1; up = a.tree.now.up.now; size = a.tree.now.size.now; rank = a.tree.now.rank.now }
