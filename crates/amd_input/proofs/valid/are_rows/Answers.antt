use Rattle.std.proofs.Common.{◌<ℤ◌, ℤ, List, map, pos, subst, sym, ◌∙◌}
use Rattle.std.proofs.lemmas.Bool.{true≢false}
use Rattle.amd_input.proofs.Classes.{rows_more}
use Rattle.amd_input.proofs.valid.are_rows.Goals as goal

pub rows-preserved : goal.rows-preserved
rows-preserved g c =
    let ai : List ℤ = map g.I.Index.value c.args.a_i.now in
    let m : ℤ = g.I.Index.value c.args.n_row in
    rows_more m ai c.args.from c.rows.k c.rows.invariant
    (λ h. true≢false (sym (c.is_negative.ensures.1 (subst (λ z. z <ℤ pos 0) (sym c.value_at-row.ensures) h)) ∙ c.if-is_negative.false))
    (subst (λ z. z <ℤ m) c.value_at-row.ensures (c.is_below.ensures.0 c.if-not-is_below.false))
