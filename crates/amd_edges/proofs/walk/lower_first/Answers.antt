use Rattle.std.proofs.Common.{◌+◌, ◌<◌, ◌^◌, arith, le_of_lt, map, subst, sym, ◌∙◌}
use Rattle.std.proofs.lemmas.List.{length-map}
use Rattle.amd_types.specs.Naturals.{naturals}
use Rattle.amd_edges.proofs.Forms.{pointer_fits, pointer_read, row_fits, place_in}
use Rattle.amd_edges.proofs.LowerWalks.{start_at, start_behind}
use Rattle.amd_edges.proofs.walk.lower_first.Goals as goal
use Rattle.amd_edges.proofs.walk.lower_first.Goals.{else-first-count_at-via-then-first-count_at+else-count_at-j}
use Rattle.amd_edges.proofs.walk.lower_first.Goals.{else-first-count_at-via-else-first-count_at}

pub count_at-first-requires-clause-fits : goal.count_at-first-requires-clause-fits
count_at-first-requires-clause-fits g c = pointer_fits c.args.size (map g.I.Index.value c.args.a_p.now)
    (map g.I.Index.value c.args.a_i.now) c.requires.form c.args.j (let l = c.requires.row in omega (arith, l))
    (subst (λ x. x < 2 ^ 64) (sym (length-map c.args.a_i.now g.I.Index.value)) (omega (arith, c.well_formed)))

pub count_at-requires-clause-fits : goal.count_at-requires-clause-fits
count_at-requires-clause-fits g c = pointer_fits c.args.size (map g.I.Index.value c.args.a_p.now)
    (map g.I.Index.value c.args.a_i.now) c.requires.form (c.args.j + 1) (let l = c.requires.row in omega (arith, l))
    (subst (λ x. x < 2 ^ 64) (sym (length-map c.args.a_i.now g.I.Index.value)) (omega (arith, c.well_formed)))

pub count_at-requires-then-first-count_at-clause-within : goal.count_at-requires-then-first-count_at-clause-within
count_at-requires-then-first-count_at-clause-within g c = place_in g.I.Index.value c.args.a_i.now c.args.size
    (map g.I.Index.value c.args.a_p.now) c.requires.form c.args.j c.count_at-first.result c.count_at.result c.requires.row
    c.count_at.ensures.count c.if-first-count_at.true

pub count_at-requires-then-first-count_at-clause-fits : goal.count_at-requires-then-first-count_at-clause-fits
count_at-requires-then-first-count_at-clause-fits g c = row_fits c.args.size (map g.I.Index.value c.args.a_p.now)
    (map g.I.Index.value c.args.a_i.now) c.requires.form c.args.j c.count_at-first.result c.requires.row
    (let some = c.if-first-count_at.true in let end = c.count_at.ensures.count in omega (arith, some, end)) c.ranges.size.fits

pub returns-then-count_at-j : goal.returns-then-count_at-j
returns-then-count_at-j g c =
    let az = naturals (map g.I.Index.value c.args.a_p.now) in let bz = naturals (map g.I.Index.value c.args.a_i.now) in
    let some = c.if-first-count_at.true in let end = c.count_at.ensures.count in
    start_behind az bz c.args.j c.count_at-first.result c.count_at-first.ensures.count (omega (arith, some, end))
    (sym c.count_at-then-first-count_at.ensures.count ∙ c.if-count_at-j.true)

pub returns-else-first-count_at : goal.returns-else-first-count_at
returns-else-first-count_at g c =
    let az = naturals (map g.I.Index.value c.args.a_p.now) in let bz = naturals (map g.I.Index.value c.args.a_i.now) in
    let end = c.count_at.ensures.count in
    start_at az bz c.args.j c.count_at-first.result c.count_at-first.ensures.count (λ some is. elim c.else-first-count_at.branch [
      | else-first-count_at-via-then-first-count_at+else-count_at-j w ↦
          w.if-count_at-j.false (w.count_at-then-first-count_at.ensures.count ∙ is)
      | else-first-count_at-via-else-first-count_at w ↦ (let none = w.if-first-count_at.false in omega (arith, none, end, some))
    ])

pub count_at-first-requires-clause-within : goal.count_at-first-requires-clause-within
count_at-first-requires-clause-within g c = (pointer_read g.I.Index.value c.args.a_p.now c.args.a_i.now c.args.size
    c.requires.form c.args.j (le_of_lt c.requires.row) (omega (arith, c.well_formed))).0

pub count_at-requires-clause-within : goal.count_at-requires-clause-within
count_at-requires-clause-within g c = (pointer_read g.I.Index.value c.args.a_p.now c.args.a_i.now c.args.size
    c.requires.form (c.args.j + 1) (let l = c.requires.row in omega (arith, l)) (omega (arith, c.well_formed))).0

pub overflow_add-j : goal.overflow_add-j
overflow_add-j g c = let l = c.requires.row in let top = c.ranges.size.fits in omega (arith, l, top)
