use Rattle.std.proofs.Common.{rules, le_of_lt, ◌∙◌}
use Rattle.std.proofs.lemmas.List.{get_or_default}
use Rattle.amd_words.proofs.SideLists.{last_of, inside}
use Rattle.amd_words.proofs.sides.last_at.Goals as goal

pub offset_bounds-sides-i : goal.offset_bounds-sides-i
offset_bounds-sides-i g c = le_of_lt (inside c.args.sides.now c.args.i c.requires)

pub bounds-sides-i : goal.bounds-sides-i
bounds-sides-i g c = inside c.args.sides.now c.args.i c.requires

pub returns-clause-small : goal.returns-clause-small
returns-clause-small g c = c.number_of.ensures.small

pub returns-clause-is : goal.returns-clause-is
returns-clause-is g c =
    let inside = inside c.args.sides.now c.args.i c.requires in
    last_of _ _ _ _ (c.row.view_is ∙ c.index-sides-i.is ∙ get_or_default _ _ _ (0, 0) inside) (search rules)
