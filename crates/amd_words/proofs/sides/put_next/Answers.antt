use Rattle.std.proofs.Common.{rules, ap, arith, ◌∙◌}
use Rattle.std.proofs.lemmas.List.{get_or_default}
use Rattle.amd_words.proofs.SideLists.{next_put, last_kept, inside, offset_fits}
use Rattle.amd_words.proofs.sides.put_next.Goals as goal

pub offset_bounds-sides-i : goal.offset_bounds-sides-i
offset_bounds-sides-i g c = offset_fits c.args.sides.now c.args.i _ c.requires.inside (omega arith)

pub bounds-sides-i : goal.bounds-sides-i
bounds-sides-i g c = inside c.args.sides.now c.args.i c.requires.inside

pub cell_of-row-inside-requires : goal.cell_of-row-inside-requires
cell_of-row-inside-requires g c = c.requires.fits

pub returns-clause-nexts : goal.returns-clause-nexts
returns-clause-nexts g c = next_put _ _ _ c.args.next (search rules)

pub returns-clause-lasts : goal.returns-clause-lasts
returns-clause-lasts g c =
    last_kept _ _ _ (ap (λ a. a.1) (c.row.view_is ∙ get_or_default _ _ _ (0, 0) (inside c.args.sides.now c.args.i c.requires.inside)))
