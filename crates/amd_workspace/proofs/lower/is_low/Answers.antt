-- the goals of lower::is_low.
use Rattle.std.proofs.Common.{◌+◌, arith, map, le_of_lt}
use Rattle.std.proofs.lemmas.Bool.{leb-true, le-leb}
use Rattle.amd_edges.proofs.Forms.{pointer_read}
use Rattle.amd_workspace.proofs.LowerColumns.{none_low, all_low, low_first, first_before, first_read}
use Rattle.amd_workspace.proofs.lower.is_low.Goals as goal

pub count_at-first-requires : goal.count_at-first-requires
count_at-first-requires g c = let p = pointer_read g.I.Index.value c.args.a_p.now c.args.a_i.now c.args.size c.requires.form c.args.j
    (le_of_lt c.requires.row) (omega (arith, c.well_formed)) in record { within = p.0; fits = p.1 }

pub count_at-requires : goal.count_at-requires
count_at-requires g c = let p = pointer_read g.I.Index.value c.args.a_p.now c.args.a_i.now c.args.size c.requires.form (c.args.j + 1)
    (let l = c.requires.row in omega (arith, l)) (omega (arith, c.well_formed)) in record { within = p.0; fits = p.1 }

pub returns-then-first-count_at-clause-yes : goal.returns-then-first-count_at-clause-yes
returns-then-first-count_at-clause-yes g c = λ e. none_low c.args.size (map g.I.Index.value c.args.a_p.now)
    (map g.I.Index.value c.args.a_i.now) c.requires.form c.args.j c.requires.row
    (let a = c.count_at-first.ensures.count in let b = c.count_at.ensures.count in let t = c.if-first-count_at.true in
    omega (arith, a, b, t))

pub count_at-requires-2 : goal.count_at-requires-2
count_at-requires-2 g c = let r = c.requires in
    let p = first_read g.I.Index.value c.args.a_p.now c.args.a_i.now c.args.size r.form r.sorted c.args.j c.count_at-first.result
    c.count_at.result r.row c.count_at-first.ensures.count c.count_at.ensures.count c.if-first-count_at.false c.ranges.size.fits in
    record { within = p.0; fits = p.1 }

pub returns-clause-yes : goal.returns-clause-yes
returns-clause-yes g c = λ e.
    let ap' = map g.I.Index.value c.args.a_p.now in let ai = map g.I.Index.value c.args.a_i.now in
    let a = c.count_at-first.ensures.count in let b = c.count_at.ensures.count in
    let before = first_before c.args.size ap' ai c.requires.form c.args.j c.requires.row c.requires.sorted c.count_at-first.result
    c.count_at.result a b c.if-first-count_at.false in
    all_low c.args.size ap' ai c.requires.form c.args.j c.requires.row c.requires.sorted c.count_at-first.result c.count_at.result a b
    before (let low = leb-true c.args.j c.count_at-2.result e in let is = c.count_at-2.ensures.count in omega (arith, low, is))

pub returns-clause-no : goal.returns-clause-no
returns-clause-no g c = λ h.
    let ap' = map g.I.Index.value c.args.a_p.now in let ai = map g.I.Index.value c.args.a_i.now in
    let a = c.count_at-first.ensures.count in let b = c.count_at.ensures.count in
    let before = first_before c.args.size ap' ai c.requires.form c.args.j c.requires.row c.requires.sorted c.count_at-first.result
    c.count_at.result a b c.if-first-count_at.false in
    let low = low_first c.args.size ap' ai c.requires.form c.args.j c.requires.row c.requires.sorted c.count_at-first.result
    c.count_at.result a b before h in
    le-leb c.args.j c.count_at-2.result (let is = c.count_at-2.ensures.count in omega (arith, low, is))
