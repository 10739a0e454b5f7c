use Rattle.amd_factor.specs.Ancestors.{Ready}
use Rattle.amd_factor.proofs.tree.elimination_tree.Given as goal

abbrev pub ghost-link_row : goal.ghost-link_row
ghost-link_row g a = g.o

abbrev pub invariant-rows : goal.invariant-rows
invariant-rows g l = Ready g.o l.i l.parent l.ancestor
