-- The sums over the columns so far.
use Rattle.std.proofs.Common.{arith, subst}
use Rattle.std.specs.Prelude.{slice_index}
use Rattle.amd_factor.specs.Counted.{SumUp}
use Rattle.amd_factor.proofs.Meetings.CountNeeds.{all-columns, squares-few, sums-next, sums-none}
use Rattle.amd_factor.proofs.counted.sums_of.Goals as goal

pub columns-init : goal.columns-init
columns-init c = record { sums = λ columns h. sums-none; few = omega arith }

pub columns-preserved : goal.columns-preserved
columns-preserved c =
    let next = c.in_ok-sums.ensures in let before = c.columns.invariant in record {
      sums = λ columns h. sums-next columns c.args.sizes.now h c.columns.size-index c.columns-test.true _ _ (before.sums columns h)
          next.0 next.1 next.2;
      few = rw (next.0, next.1) (squares-few c.columns.sums.entries c.columns.sums.squares
          (slice_index c.args.sizes.now c.columns.size-index) before.few);
    }

pub returns-clause-sums : goal.returns-clause-sums
returns-clause-sums c = λ columns h.
    subst (λ z. SumUp z c.columns.sums) (all-columns columns c.args.sizes.now h c.columns.size-index c.columns-test.false)
    (c.columns.invariant.sums columns h)
