-- The needs of the columns so far.
use Rattle.std.proofs.Common.{subst}
use Rattle.amd_factor.specs.Counted.{IsCutNeed}
use Rattle.amd_factor.proofs.Meetings.CountNeeds.{all-columns, cut-need-next, cut-need-none}
use Rattle.amd_factor.proofs.counted.wide_need.Goals as goal

pub columns-init : goal.columns-init
columns-init c = λ columns h. cut-need-none

pub columns-preserved : goal.columns-preserved
columns-preserved c =
    λ columns h. cut-need-next columns c.args.sizes.now h c.columns.size-index c.columns-test.true _ _ (c.columns.invariant columns h)
    c.with_size-need.ensures.lnz c.with_size-need.ensures.ldl c.with_size-need.ensures.lu c.with_size-need.ensures.greatest

pub returns : goal.returns
returns c = λ columns h.
    subst (λ z. IsCutNeed z c.columns.need) (all-columns columns c.args.sizes.now h c.columns.size-index c.columns-test.false)
    (c.columns.invariant columns h)
