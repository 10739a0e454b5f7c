-- A sum that passes the greatest count is no part of a sum that does not.
use Rattle.std.proofs.Common.{◌≡◌, ◌+◌, ◌<◌, ◌^◌, length, arith, refl, suc, subst, sym, add-one}
use Rattle.std.specs.Prelude.{SomeIff, slice_index}
use Rattle.amd_model.specs.Below.{sum_below}
use Rattle.amd_model.proofs.Counting.Below.{sum_upto}
use Rattle.amd_report.proofs.signs.sum_of.Goals as goal

pub numbers-init : goal.numbers-init
unfolding sum_below
numbers-init c = record { fits = omega arith; sum = refl }

pub returns-in_err-sum : goal.returns-in_err-sum
returns-in_err-sum c =
    let numbers = c.args.numbers.now in
    let before = c.numbers.invariant.sum in
    let up = sum_upto c.numbers.number-index (length numbers) (λ i. slice_index numbers i) c.numbers-test.true in
    let over = c.in_err-sum.ensures in
    subst (λ r. SomeIff r (sum_below (length numbers) (λ k. slice_index numbers k) < 2 ^ 64)
    (sum_below (length numbers) (λ k. slice_index numbers k))) (sym c.from_residual.ensures)
    (λ fits. over (omega (arith, before, up, fits)))

pub numbers-preserved : goal.numbers-preserved
unfolding sum_below
numbers-preserved c =
    let k = c.numbers.number-index in let numbers = c.args.numbers.now in
    let before = c.numbers.invariant.sum in
    let fits = c.in_ok-sum.ensures.0 in let is = c.in_ok-sum.ensures.1 in
    let last : sum_below (suc k) (λ i. slice_index numbers i) ≡ slice_index numbers k + sum_below k (λ i. slice_index numbers i) = refl in
    record {
      fits = omega (arith, fits, is);
      sum = rw add-one (omega (arith, before, last, is));
    }

pub returns : goal.returns
returns c =
    let end : c.numbers.number-index ≡ length c.args.numbers.now = (let x = c.numbers-test.false in
    let y = c.numbers.auto.number-index-end in omega arith) in
    let is = rw end at c.numbers.invariant.sum in
    (subst (λ s. s < 2 ^ 64) is c.numbers.invariant.fits, is)
