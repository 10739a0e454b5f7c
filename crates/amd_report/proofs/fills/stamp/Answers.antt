-- Each turn stamps one row more.
use Rattle.std.proofs.Common.{◌≡◌, ◌+◌, ◌↔◌, arith, refl, subst, ◌∙◌, take_all}
use Rattle.std.specs.Prelude.{Contains, slice_index}
use Rattle.amd_report.proofs.Sifting.{most-next, stamped-next}
use Rattle.amd_report.proofs.fills.stamp.Goals as goal

pub rows-preserved : goal.rows-preserved
rows-preserved c = (
  c.stamp_row.ensures.size ∙ c.rows.invariant.0,
  stamped-next c.args.later.now c.rows.edge c.stamp_row.new.edge c.args.k c.rows.row-index 0 _ _ c.rows-test.true refl c.rows.invariant.1
      (λ low. c.stamp_row.ensures.row (let e = c.rows.invariant.0 in omega (arith, low, e))) c.stamp_row.ensures.others,
  most-next c.rows.edge c.stamp_row.new.edge c.args.k _ _ (c.stamp_row.ensures.size ∙ c.rows.invariant.0) c.rows.invariant.2
      (λ low. c.stamp_row.ensures.row (let e = c.rows.invariant.0 in omega (arith, low, e))) c.stamp_row.ensures.others,
)

pub returns-clause-stamped : goal.returns-clause-stamped
returns-clause-stamped c j low =
    subst (λ z. (slice_index c.rows.edge j ≡ c.args.k + 1) ↔ Contains z j)
    (take_all c.rows.row-index c.args.later.now c.rows-test.false) (c.rows.invariant.1 j low)
