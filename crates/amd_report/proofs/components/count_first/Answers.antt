-- Each turn counts a row that links to itself.
use Rattle.std.proofs.Common.{◌≡◌, ℕ, Bool, true, false, arith, sym, ◌∙◌}
use Rattle.std.specs.Prelude.{slice_index, ◌==◌}
use Rattle.std.proofs.lemmas.Bool.{eq-eqb, ne_eqb}
use Rattle.amd_model.specs.Below.{count_below}
use Rattle.amd_model.proofs.Counting.Below.{count_most}
use Rattle.amd_count_laws.proofs.Sums.{count-next, count-none}
use Rattle.amd_report.proofs.components.count_first.Goals as goal
use Rattle.amd_report.proofs.components.count_first.Goals.{then-links-row, else-links-row}

pub rows-init : goal.rows-init
rows-init c = sym (count-none _)

pub overflow_add-count : goal.overflow_add-count
overflow_add-count c =
    let most = count_most c.rows.row (λ v. slice_index c.args.links.now v == v) in
    let so_far = c.rows.invariant in omega (arith, most, so_far)

pub rows-preserved : goal.rows-preserved
rows-preserved c =
    let p : ℕ → Bool = λ v. slice_index c.args.links.now v == v in
    let so_far : c.rows.count ≡ count_below c.rows.row p = c.rows.invariant in
    elim c.if-links-row.branch [
      | then-links-row w ↦ (let n = count-next p c.rows.row true (eq-eqb _ _ w.if-links-row.true) in w.count-is ∙ omega (arith, n, so_far))
      | else-links-row w ↦ (let n = count-next p c.rows.row false (ne_eqb _ _ w.if-links-row.false) in
          w.count-is ∙ omega (arith, n, so_far))
    ]
