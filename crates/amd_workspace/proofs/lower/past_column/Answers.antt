-- the goals of lower::past_column.
use Rattle.std.proofs.Common.{◌+◌, ◌-◌, arith, map, le_of_lt}
use Rattle.amd_edges.proofs.Forms.{pointer_read, row_read}
use Rattle.amd_workspace.proofs.LowerColumns.{all_until, first_before, last_in, last_low, no_entry}
use Rattle.amd_workspace.proofs.lower.past_column.Goals as goal

pub count_at-stop-requires : goal.count_at-stop-requires
count_at-stop-requires g c = let p = pointer_read g.I.Index.value c.args.a_p.now c.args.a_i.now c.args.size c.requires.input.form
    (c.args.j + 1)
    (let l = c.requires.row in omega (arith, l)) (omega (arith, c.well_formed)) in record { within = p.0; fits = p.1 }

pub count_at-requires : goal.count_at-requires
count_at-requires g c = let p = pointer_read g.I.Index.value c.args.a_p.now c.args.a_i.now c.args.size c.requires.input.form c.args.j
    (le_of_lt c.requires.row) (omega (arith, c.well_formed)) in record { within = p.0; fits = p.1 }

pub returns-then-count_at-stop-clause-all : goal.returns-then-count_at-stop-clause-all
returns-then-count_at-stop-clause-all g c = λ i e. absurd (no_entry c.args.size (map g.I.Index.value c.args.a_p.now)
    (map g.I.Index.value c.args.a_i.now) c.requires.input.form c.args.j c.requires.row
    (let a = c.count_at.ensures.count in let b = c.count_at-stop.ensures.count in let t = c.if-count_at-stop.true in
    omega (arith, a, b, t)) i e)

pub count_at-requires-2 : goal.count_at-requires-2
count_at-requires-2 g c =
    let inside = first_before c.args.size (map g.I.Index.value c.args.a_p.now) (map g.I.Index.value c.args.a_i.now) c.requires.input.form
    c.args.j
    c.requires.row c.requires.input.sorted c.count_at.result c.count_at-stop.result c.count_at.ensures.count c.count_at-stop.ensures.count
    c.if-count_at-stop.false in
    let p = row_read g.I.Index.value c.args.a_p.now c.args.a_i.now c.args.size c.requires.input.form c.args.j (c.count_at-stop.result - 1)
    c.count_at-stop.result c.requires.row c.count_at-stop.ensures.count (omega (arith, inside)) c.ranges.size.fits in
    record { within = p.0; fits = p.1 }

pub overflow_add-result-2 : goal.overflow_add-result-2
overflow_add-result-2 g c =
    let ap' = map g.I.Index.value c.args.a_p.now in let ai = map g.I.Index.value c.args.a_i.now in
    let inside = first_before c.args.size ap' ai c.requires.input.form c.args.j c.requires.row c.requires.input.sorted c.count_at.result
    c.count_at-stop.result c.count_at.ensures.count c.count_at-stop.ensures.count c.if-count_at-stop.false in
    let small = last_in c.args.size ap' ai c.requires.input.form c.args.j c.requires.row c.requires.input.sorted c.count_at.result
    c.count_at-stop.result c.count_at.ensures.count c.count_at-stop.ensures.count inside in
    let is = c.count_at-2.ensures.count in let fits = c.ranges.size.fits in omega (arith, small, is, fits)

pub returns : goal.returns
returns g c =
    let ap' = map g.I.Index.value c.args.a_p.now in let ai = map g.I.Index.value c.args.a_i.now in
    let inside = first_before c.args.size ap' ai c.requires.input.form c.args.j c.requires.row c.requires.input.sorted c.count_at.result
    c.count_at-stop.result c.count_at.ensures.count c.count_at-stop.ensures.count c.if-count_at-stop.false in
    let is = c.count_at-2.ensures.count in record {
      past = (let low = last_low c.args.size ap' ai c.requires.input.form c.args.j c.requires.row c.requires.input.sorted c.count_at.result
          c.count_at-stop.result c.count_at.ensures.count c.count_at-stop.ensures.count inside c.requires.input.lower in omega
          (arith, low, is));
      few = (let small = last_in c.args.size ap' ai c.requires.input.form c.args.j c.requires.row c.requires.input.sorted c.count_at.result
          c.count_at-stop.result c.count_at.ensures.count c.count_at-stop.ensures.count inside in omega (arith, small, is));
      all = λ i e. (let all = all_until c.args.size ap' ai c.requires.input.form c.args.j c.requires.row c.requires.input.sorted
          c.count_at.result
          c.count_at-stop.result c.count_at.ensures.count c.count_at-stop.ensures.count inside i e in omega (arith, all, is));
    }
