-- Each turn counts a column with an entry on the diagonal.
use Rattle.std.proofs.Common.{◌≡◌, ◌+◌, ℕ, Bool, true, false, arith, sym, ◌∙◌}
use Rattle.std.specs.Prelude.{slice_index}
use Rattle.amd_model.specs.Below.{count_below}
use Rattle.amd_model.proofs.Counting.Below.{count_most}
use Rattle.amd_types.specs.Naturals.{is_before}
use Rattle.amd_count_laws.proofs.Sums.{count-next, count-none}
use Rattle.amd_report.proofs.signs.count_diagonal.Goals as goal
use Rattle.amd_report.proofs.signs.count_diagonal.Goals.{then-has_row, else-has_row}

pub columns-init : goal.columns-init
columns-init c = sym (count-none _)

pub overflow_add-count : goal.overflow_add-count
overflow_add-count c =
    let most = count_most c.columns.column (λ v. is_before c.args.a_p.now c.args.a_i.now (slice_index c.args.a_p.now (v + 1)) v v) in
    let so_far = c.columns.invariant in omega (arith, most, so_far)

pub columns-preserved : goal.columns-preserved
columns-preserved c =
    let p : ℕ → Bool = λ v. is_before c.args.a_p.now c.args.a_i.now (slice_index c.args.a_p.now (v + 1)) v v in
    let so_far : c.columns.count ≡ count_below c.columns.column p = c.columns.invariant in
    elim c.if-has_row.branch [
      | then-has_row w ↦ (let n = count-next p c.columns.column true (sym c.has_row.ensures ∙ w.if-has_row.true) in
          w.count-is ∙ omega (arith, n, so_far))
      | else-has_row w ↦ (let n = count-next p c.columns.column false (sym c.has_row.ensures ∙ w.if-has_row.false) in
          w.count-is ∙ omega (arith, n, so_far))
    ]
