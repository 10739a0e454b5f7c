use Rattle.std.proofs.Common.{◌-◌, ◌*◌}
use Rattle.amd_postorder.proofs.Links.{IsGoing, walking}
use Rattle.amd_postorder.proofs.post_tree.post_tree.Given as goal

abbrev pub invariant-nodes : goal.invariant-nodes
invariant-nodes g l =
    let read = g.L.Link.read in
    IsGoing l.fn.k l.fn.root (read l.fn.child) (read l.fn.sibling) (read l.fn.order) (read l.fn.stack)
    (walking (read l.child) (read l.order) (read l.stack) l.height l.next)

-- each turn puts a node on the stack, or numbers one and takes it off
abbrev pub decreases-nodes : goal.decreases-nodes
decreases-nodes g l = 2 * (l.nn - l.next) - l.height
