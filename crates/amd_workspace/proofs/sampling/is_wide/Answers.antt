-- the goals of sampling::is_wide.
use Rattle.std.proofs.Common.{◌+◌, ◌-◌, arith, le_of_lt}
use Rattle.amd_edges.proofs.Forms.{pointer_read, row_read}
use Rattle.amd_workspace.proofs.sampling.is_wide.Goals as goal

pub count_at-first-requires : goal.count_at-first-requires
count_at-first-requires g c = let p = pointer_read g.I.Index.value c.args.a_p.now c.args.a_i.now c.args.size c.requires.form c.args.j
    (le_of_lt c.requires.row) (omega (arith, c.well_formed)) in record { within = p.0; fits = p.1 }

pub count_at-stop-requires : goal.count_at-stop-requires
count_at-stop-requires g c = let p = pointer_read g.I.Index.value c.args.a_p.now c.args.a_i.now c.args.size c.requires.form (c.args.j + 1)
    (let l = c.requires.row in omega (arith, l)) (omega (arith, c.well_formed)) in record { within = p.0; fits = p.1 }

pub count_at-requires : goal.count_at-requires
count_at-requires g c =
    let p = row_read g.I.Index.value c.args.a_p.now c.args.a_i.now c.args.size c.requires.form
    c.args.j (c.count_at-stop.result - 1)
    c.count_at-stop.result c.requires.row c.count_at-stop.ensures.count (let t = c.if-first-stop.true in omega (arith, t))
    c.ranges.size.fits in
    record { within = p.0; fits = p.1 }

pub count_at-requires-then-first-stop : goal.count_at-requires-then-first-stop
count_at-requires-then-first-stop g c =
    let p = row_read g.I.Index.value c.args.a_p.now c.args.a_i.now c.args.size c.requires.form
    c.args.j c.count_at-first.result
    c.count_at-stop.result c.requires.row c.count_at-stop.ensures.count c.if-first-stop.true c.ranges.size.fits in
    record { within = p.0; fits = p.1 }
