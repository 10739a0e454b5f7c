use Rattle.std.proofs.Common.{◌-◌, ◌+◌, ◌≡◌, ◌<ℤ◌, ◌∙◌, ℕ, ℤ, List, map, arith, rules, sym, subst}
use Rattle.std.proofs.Common.{true≢false}
use Rattle.amd_model.specs.Input.Columns.{at}
use Rattle.amd_input.proofs.Classes.{rise_more}
use Rattle.amd_input.proofs.valid.rises.Goals.{then-not-is_below, else-not-is_below}
use Rattle.amd_input.proofs.valid.rises.Goals as goal

pub rows-preserved : goal.rows-preserved
rows-preserved g c =
    let k : ℕ = c.rows.k in
    let ai : List ℤ = map g.I.Index.value c.args.a_i.now in
    let next : k ≡ k - 1 + 1 = omega arith in
    elim c.if-not-is_below.branch [
      | then-not-is_below w ↦ record {
        rise = λ t. absurd (true≢false (sym t ∙ w.rising-is));
        descend = λ f. (
          k - 1,
          omega arith,
          omega arith,
          rw (sym next, sym c.value_at.ensures, sym c.value_at-in-rows.ensures) (search rules),
        );
      }
      | else-not-is_below w ↦ record {
        rise = λ t.
            let up = subst (λ z. g.I.Index.value c.value_at.result <ℤ z) c.value_at-in-rows.ensures
            (c.is_below.ensures.0 w.if-not-is_below.false) in
            rise_more ai c.args.from (k - 1) k next (c.rows.invariant.rise (sym w.rising-is ∙ t))
            (subst (λ z. z <ℤ at ai k) c.value_at.ensures up);
        descend = λ f. let d = c.rows.invariant.descend (sym w.rising-is ∙ f) in (d.0, d.1, omega arith, d.3);
      }
    ]
