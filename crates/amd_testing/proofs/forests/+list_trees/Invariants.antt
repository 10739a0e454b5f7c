use Rattle.amd_testing.proofs.forests.+list_trees.Given as goal

-- each call goes one level down
abbrev pub decreases-list_trees : goal.decreases-list_trees
decreases-list_trees l = l.depth
