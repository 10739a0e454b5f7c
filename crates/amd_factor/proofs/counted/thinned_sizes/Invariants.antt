use Rattle.std.specs.Prelude.{length}
use Rattle.amd_factor.specs.Thinning.{order_of_lists}
use Rattle.amd_factor.proofs.counted.thinned_sizes.Given as goal

abbrev pub ghost-elimination_tree : goal.ghost-elimination_tree
ghost-elimination_tree g a = g.o

abbrev pub ghost-thin_lists : goal.ghost-thin_lists
ghost-thin_lists g a = g.o

abbrev pub ghost-tree_sizes : goal.ghost-tree_sizes
ghost-tree_sizes g a = (g.o, order_of_lists (length g.o.rows) a.starts.now a.earlier.now)
