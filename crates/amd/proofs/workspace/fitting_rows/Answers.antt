use Rattle.std.proofs.Common.{ℤ, List, map, arith}
use Rattle.std.specs.Option.{option_copied}
use Rattle.amd_edges.proofs.Forms.{pointer_read}
use Rattle.amd.proofs.ValidCalls.{has_form}
use Rattle.amd.proofs.workspace.fitting_rows.Goals as goal

pub count_at-requires-clause-fits : goal.count_at-requires-clause-fits
count_at-requires-clause-fits g c =
    let z : ℤ = g.I.Index.value c.args.n in let e = c.in-Some.ensures in
    let a_p : List ℤ = map g.I.Index.value c.args.a_p.now in let a_i : List ℤ = map g.I.Index.value c.args.a_i.now in
    (pointer_read g.I.Index.value c.args.a_p.now c.args.a_i.now c.in-Some.size
    (has_form (option_copied c.args.hold) c.in-Some.size z a_p a_i c.in-Some.status e.size c.if-size-ne0.true e.marks e.status e.valid)
    c.in-Some.size (omega arith) (omega (arith, c.well_formed))).1
