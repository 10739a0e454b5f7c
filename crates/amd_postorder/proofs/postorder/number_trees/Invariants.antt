use Rattle.std.proofs.Common.{List, ℤ}
use Rattle.amd_postorder.specs.Trees.{AreLinked, IsElementForest, tree_of}
use Rattle.amd_postorder.proofs.TreeNumbers.{AreNumbered}
use Rattle.amd_postorder.proofs.postorder.number_trees.Given as goal

abbrev pub invariant-roots : goal.invariant-roots
invariant-roots g l =
    let parent = g.N.Number.read l.parent in let nv = g.V.Number.read l.nv in let links = g.L.Link.read in
    (f_size : List ℤ) → IsElementForest l.nn parent nv f_size → AreLinked (tree_of l.nn parent nv f_size) (links l.fn.child)
    (links l.sibling) →
    AreNumbered (tree_of l.nn parent nv f_size) l.j (links l.fn.child) (links l.child) (links l.order) l.next
