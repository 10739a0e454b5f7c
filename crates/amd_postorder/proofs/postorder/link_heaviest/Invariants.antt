use Rattle.amd_postorder.specs.Trees.{AreHeaviest, tree_of}
use Rattle.amd_postorder.proofs.postorder.link_heaviest.Given as goal

abbrev pub invariant-elements : goal.invariant-elements
invariant-elements g l =
    let read = g.N.Number.read in let rows = g.V.Number.read in
    let t = tree_of l.nn (read l.parent) (rows l.nv) (read l.f_size) in
    AreHeaviest t l.j (g.L.Link.read l.heaviest) × AreHeaviest t l.j (g.L.Link.read l.child)
