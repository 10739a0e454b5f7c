-- the goals of sampling::is_uneven.
use Rattle.std.proofs.Common.{◌+◌, arith}
use Rattle.amd_edges.proofs.Forms.{pointer_read}
use Rattle.amd_workspace.proofs.sampling.is_uneven.Goals as goal

pub count_at-middle-requires : goal.count_at-middle-requires
count_at-middle-requires g c = let p = pointer_read g.I.Index.value c.args.a_p.now c.args.a_i.now c.args.size c.requires.form
    (c.args.j + 1) (let l = c.requires.row in omega (arith, l)) (omega (arith, c.well_formed)) in record { within = p.0; fits = p.1 }

pub count_at-requires : goal.count_at-requires
count_at-requires g c = let p = pointer_read g.I.Index.value c.args.a_p.now c.args.a_i.now c.args.size c.requires.form c.args.j
    (let l = c.requires.row in omega (arith, l)) (omega (arith, c.well_formed)) in record { within = p.0; fits = p.1 }

pub count_at-requires-2 : goal.count_at-requires-2
count_at-requires-2 g c = let p = pointer_read g.I.Index.value c.args.a_p.now c.args.a_i.now c.args.size c.requires.form
    (c.args.j + 2) (let l = c.requires.row in omega (arith, l)) (omega (arith, c.well_formed)) in record { within = p.0; fits = p.1 }
