use Rattle.std.proofs.Common.{rules, ap, arith, ◌∙◌}
use Rattle.std.proofs.lemmas.List.{get_or_default}
use Rattle.amd_words.proofs.SideLists.{last_put, next_kept, inside, offset_fits}
use Rattle.amd_words.proofs.sides.put_last.Goals as goal

pub offset_bounds-sides-i : goal.offset_bounds-sides-i
offset_bounds-sides-i g c = offset_fits c.args.sides.now c.args.i _ c.requires.inside (omega arith)

pub bounds-sides-i : goal.bounds-sides-i
bounds-sides-i g c = inside c.args.sides.now c.args.i c.requires.inside

pub cell_of-row-inside-requires : goal.cell_of-row-inside-requires
cell_of-row-inside-requires g c = c.requires.fits

pub returns-clause-lasts : goal.returns-clause-lasts
returns-clause-lasts g c = last_put _ _ _ c.args.last (search rules)

pub returns-clause-nexts : goal.returns-clause-nexts
returns-clause-nexts g c =
    next_kept _ _ _ (ap (λ a. a.0) (c.row.view_is ∙ get_or_default _ _ _ (0, 0) (inside c.args.sides.now c.args.i c.requires.inside)))
