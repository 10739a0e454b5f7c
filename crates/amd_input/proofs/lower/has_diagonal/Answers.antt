-- the goals of lower::has_diagonal.
use Rattle.std.proofs.Common.{◌+◌, arith, ap, get_or, le_of_lt, map, ◌∙◌}
use Rattle.std.proofs.lemmas.Bool.{le-ltb}
use Rattle.amd_types.specs.Naturals.{naturals}
use Rattle.amd_edges.proofs.Forms.{place_in, pointer_read, row_fits, sorted_form}
use Rattle.amd_input.proofs.LowerRows.{diagonal_first, diagonal_none}
use Rattle.amd_input.proofs.lower.has_diagonal.Goals as goal

pub count_at-start-requires : goal.count_at-start-requires
count_at-start-requires g c = let p = pointer_read g.I.Index.value c.args.a_p.now c.args.a_i.now c.args.size c.requires.input.form c.args.k
    (le_of_lt c.requires.k_in) (omega (arith, c.well_formed)) in record { within = p.0; fits = p.1 }

pub count_at-requires : goal.count_at-requires
count_at-requires g c = let p = pointer_read g.I.Index.value c.args.a_p.now c.args.a_i.now c.args.size c.requires.input.form
    (c.args.k + 1) (let l = c.requires.k_in in omega (arith, l)) (omega (arith, c.well_formed)) in record { within = p.0; fits = p.1 }

pub count_at-requires-then-start-count_at-clause-within : goal.count_at-requires-then-start-count_at-clause-within
count_at-requires-then-start-count_at-clause-within g c = place_in g.I.Index.value c.args.a_i.now c.args.size
    (map g.I.Index.value c.args.a_p.now) c.requires.input.form c.args.k c.count_at-start.result c.count_at.result c.requires.k_in
    c.count_at.ensures.count c.if-start-count_at.true

pub count_at-requires-then-start-count_at-clause-fits : goal.count_at-requires-then-start-count_at-clause-fits
count_at-requires-then-start-count_at-clause-fits g c = row_fits c.args.size (map g.I.Index.value c.args.a_p.now)
    (map g.I.Index.value c.args.a_i.now) c.requires.input.form c.args.k c.count_at-start.result c.requires.k_in
    (let some = c.if-start-count_at.true in let end = c.count_at.ensures.count in omega (arith, some, end)) c.ranges.size.fits

pub returns-then-start-count_at : goal.returns-then-start-count_at
returns-then-start-count_at g c =
    let n = c.args.size in let az = map g.I.Index.value c.args.a_p.now in let bz = map g.I.Index.value c.args.a_i.now in
    let form = sorted_form n az bz c.requires.input.form c.requires.input.sorted in
    let start = c.count_at-start.ensures.count in let end = c.count_at.ensures.count in let some = c.if-start-count_at.true in
    diagonal_first n (naturals az) (naturals bz) form c.requires.low c.args.k _ c.requires.k_in (omega (arith, start, end, some))
    (c.count_at-then-start-count_at.ensures.count ∙ ap (λ x. get_or (naturals bz) x 0) start)

pub returns-else-start-count_at : goal.returns-else-start-count_at
returns-else-start-count_at g c =
    let n = c.args.size in let az = map g.I.Index.value c.args.a_p.now in let bz = map g.I.Index.value c.args.a_i.now in
    let form = sorted_form n az bz c.requires.input.form c.requires.input.sorted in
    let start = c.count_at-start.ensures.count in let end = c.count_at.ensures.count in let none = c.if-start-count_at.false in
    le-ltb _ _ (omega (arith, none)) ∙
    diagonal_none n (naturals az) (naturals bz) form c.args.k c.requires.k_in (omega (arith, start, end, none))
