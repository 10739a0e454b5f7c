use Rattle.std.proofs.Common.{◌≡◌, map, take}
use Rattle.amd_postorder.specs.Trees.{link_of}
use Rattle.amd_plain.proofs.listed.parent_links.Given as goal

abbrev pub invariant-elements : goal.invariant-elements
invariant-elements g l = l.links.items ≡ map link_of (take l.e l.parent)
