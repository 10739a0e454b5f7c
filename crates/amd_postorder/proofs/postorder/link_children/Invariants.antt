use Rattle.std.proofs.Common.{List, ℤ}
use Rattle.amd_postorder.specs.Trees.{AreHeaviest, IsElementForest, tree_of}
use Rattle.amd_postorder.proofs.ChildChains.{AreLinkedFrom}
use Rattle.amd_postorder.proofs.postorder.link_children.Given as goal

abbrev pub invariant-elements : goal.invariant-elements
invariant-elements g l =
    let parent = g.N.Number.read l.parent in let nv = g.V.Number.read l.nv in let links = g.L.Link.read in
    (f_size : List ℤ) → IsElementForest l.nn parent nv f_size → AreHeaviest (tree_of l.nn parent nv f_size) l.nn (links l.heaviest) →
    AreHeaviest (tree_of l.nn parent nv f_size) l.nn (links l.fn.child) →
    AreLinkedFrom (tree_of l.nn parent nv f_size) l.j (links l.child) (links l.sibling)
