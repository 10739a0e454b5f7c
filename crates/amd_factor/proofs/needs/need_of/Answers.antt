-- The needs of the columns so far.
use Rattle.std.proofs.Common.{arith, sym, subst}
use Rattle.amd_factor.specs.Needs.{IsNeed}
use Rattle.amd_factor.proofs.Factors.ColumnSizes.{all-columns, need-next, need-none, sizes-ascend}
use Rattle.amd_factor.proofs.needs.need_of.Goals as goal

pub columns-init : goal.columns-init
columns-init c = (λ columns h. need-none, sym c.requires.1.first, record { ldl = omega arith; lu = omega arith })

pub column_size-requires-clause-ascending : goal.column_size-requires-clause-ascending
column_size-requires-clause-ascending c = sizes-ascend c.args.ptr.now c.columns.k c.requires (omega arith)

pub columns-preserved : goal.columns-preserved
columns-preserved c = (
  λ columns h. need-next columns c.args.ptr.now _ _ _ _ h (omega arith) c.column_size.ensures
      (c.columns.invariant.0 columns h) c.with_column-need.ensures.lnz c.with_column-need.ensures.ldl c.with_column-need.ensures.lu
      c.with_column-need.ensures.greatest,
  omega (arith, c.with_column-need.ensures.lnz, c.column_size.ensures, c.columns.invariant.1),
  c.with_column-need.ensures.small,
)

pub returns : goal.returns
returns c = λ columns h.
    subst (λ z. IsNeed z c.columns.need) (all-columns columns c.args.ptr.now h _ (omega arith)) (c.columns.invariant.0 columns h)
