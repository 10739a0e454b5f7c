use Rattle.std.proofs.Common.{arith}
use Rattle.std.proofs.lemmas.List.{length-map}
use Rattle.amd_edges.proofs.Forms.{pointer_fits}
use Rattle.amd_factor.proofs.Calls.WithinParts.{unfit_refused}
use Rattle.amd_factor.proofs.workspace.fitting_rows.Goals as goal

pub returns-in-Err-clause-refused : goal.returns-in-Err-clause-refused
returns-in-Err-clause-refused g c = unfit_refused (g.I.Index.value c.args.n) _ _ _ c.args.rows c.args.entries c.in-Err.unfit
    c.refusal_for.result c.refusal_for.ensures c.in-Err.ensures.unfit

pub count_at-requires-clause-fits : goal.count_at-requires-clause-fits
count_at-requires-clause-fits g c = pointer_fits _ _ _ (c.in-Ok.ensures.form c.if-size-eq0.false) c.in-Ok.size (omega arith)
    (simp length-map (omega arith))
