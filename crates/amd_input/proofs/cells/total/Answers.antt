use Rattle.std.proofs.Common.{◌≡◌, ◌+◌, ◌<◌, ◌^◌, length, get_or, arith, refl, suc, subst, sym, add-one}
use Rattle.std.specs.Prelude.{SomeIff}
use Rattle.std.proofs.lemmas.Grind.{get_or_default_zero}
use Rattle.amd_model.specs.Below.{sum_below}
use Rattle.amd_model.proofs.Counting.Below.{sum_upto}
use Rattle.amd_input.proofs.cells.total.Goals as goal

pub cells-init : goal.cells-init
unfolding sum_below
cells-init g c = record {
  fits = omega arith;
  sum = refl;
}

-- a sum that passes the greatest count is no part of a sum that does not
pub returns-in_err-sum : goal.returns-in_err-sum
returns-in_err-sum g c =
    let numbers = c.args.cells.now in
    let before = c.cells.invariant.sum in
    let up = sum_upto c.cells.cell-index (length numbers) (λ i. get_or numbers i 0) c.cells-test.true in
    let over = c.in_err-sum.ensures in
    let here = get_or_default_zero numbers c.cells.cell-index c.cell-item.result c.cells-test.true in
    let number = c.number_of.ensures.is in
    subst (λ r. SomeIff r (sum_below (length numbers) (λ k. get_or numbers k 0) < 2 ^ 64)
    (sum_below (length numbers) (λ k. get_or numbers k 0))) (sym c.from_residual.ensures)
    (λ fits. over (omega (arith, before, up, fits, here, number)))

pub cells-preserved : goal.cells-preserved
unfolding sum_below
cells-preserved g c =
    let k = c.cells.cell-index in let numbers = c.args.cells.now in
    let before = c.cells.invariant.sum in
    let here = get_or_default_zero numbers k c.cell-item.result c.cells-test.true in let number = c.number_of.ensures.is in
    let fits = c.in_ok-sum.ensures.0 in let is = c.in_ok-sum.ensures.1 in
    let last : sum_below (suc k) (λ i. get_or numbers i 0) ≡ get_or numbers k 0 + sum_below k (λ i. get_or numbers i 0) = refl in
    record {
      fits = omega (arith, fits, is);
      sum = rw add-one (omega (arith, before, last, is, here, number));
    }

pub returns : goal.returns
returns g c =
    let end : c.cells.cell-index ≡ length c.args.cells.now = (let x = c.cells-test.false in
    let y = c.cells.auto.cell-index-end in omega arith) in
    let is = rw end at c.cells.invariant.sum in
    (subst (λ s. s < 2 ^ 64) is c.cells.invariant.fits, is)
