use Rattle.std.proofs.Common.{◌∙◌}
use Rattle.amd_postorder.proofs.postorder.postorder_in.Goals as goal

pub clear_links-requires : goal.clear_links-requires
clear_links-requires g c = c.requires.child

pub clear_links-requires-2 : goal.clear_links-requires-2
clear_links-requires-2 g c = c.requires.sibling

pub clear_links-requires-3 : goal.clear_links-requires-3
clear_links-requires-3 g c = c.requires.order

pub clear_links-requires-4 : goal.clear_links-requires-4
clear_links-requires-4 g c = c.requires.stack

pub link_heaviest-requires-clause-forest : goal.link_heaviest-requires-clause-forest
link_heaviest-requires-clause-forest g c = c.requires.forest

pub link_heaviest-requires-clause-numbers : goal.link_heaviest-requires-clause-numbers
link_heaviest-requires-clause-numbers g c = c.requires.numbers

pub link_heaviest-requires-clause-unlinked : goal.link_heaviest-requires-clause-unlinked
link_heaviest-requires-clause-unlinked g c = c.clear_links-4.ensures

pub link_heaviest-requires-clause-child : goal.link_heaviest-requires-clause-child
link_heaviest-requires-clause-child g c = c.clear_links.ensures

pub link_children-requires-clause-heaviest : goal.link_children-requires-clause-heaviest
link_children-requires-clause-heaviest g c =
    let each = c.link_heaviest.ensures in
    (g.N.Number.read c.args.f_size.now, c.requires.forest, each.heaviest, each.child)

pub link_children-requires-clause-numbers : goal.link_children-requires-clause-numbers
link_children-requires-clause-numbers g c = c.requires.numbers

pub link_children-requires-clause-sibling : goal.link_children-requires-clause-sibling
link_children-requires-clause-sibling g c = c.clear_links-2.ensures

pub number_trees-requires-clause-linked : goal.number_trees-requires-clause-linked
number_trees-requires-clause-linked g c =
    let f_size = g.N.Number.read c.args.f_size.now in
    let each = c.link_heaviest.ensures in
    (f_size, c.requires.forest, c.link_children.ensures f_size c.requires.forest each.heaviest each.child)

pub number_trees-requires-clause-numbers : goal.number_trees-requires-clause-numbers
number_trees-requires-clause-numbers g c = c.requires.numbers

pub number_trees-requires-clause-order : goal.number_trees-requires-clause-order
number_trees-requires-clause-order g c = c.clear_links-3.ensures

pub number_trees-requires-clause-stack : goal.number_trees-requires-clause-stack
number_trees-requires-clause-stack g c = c.link_heaviest.auto.heaviest ∙ c.clear_links-4.auto.links ∙ c.requires.stack

pub returns-clause-postorder : goal.returns-clause-postorder
returns-clause-postorder g c =
    let f_size = g.N.Number.read c.args.f_size.now in
    let each = c.link_heaviest.ensures in
    c.number_trees.ensures f_size c.requires.forest (c.link_children.ensures f_size c.requires.forest each.heaviest each.child)

pub returns-clause-child : goal.returns-clause-child
returns-clause-child g c = c.number_trees.auto.child ∙ c.link_children.auto.child ∙ c.link_heaviest.auto.child ∙ c.clear_links.auto.links
    ∙ c.requires.child

pub returns-clause-sibling : goal.returns-clause-sibling
returns-clause-sibling g c = c.link_children.auto.sibling ∙ c.clear_links-2.auto.links ∙ c.requires.sibling

pub returns-clause-order : goal.returns-clause-order
returns-clause-order g c = c.number_trees.auto.order ∙ c.clear_links-3.auto.links ∙ c.requires.order

pub returns-clause-stack : goal.returns-clause-stack
returns-clause-stack g c = c.number_trees.auto.stack ∙ c.link_heaviest.auto.heaviest ∙ c.clear_links-4.auto.links ∙ c.requires.stack
