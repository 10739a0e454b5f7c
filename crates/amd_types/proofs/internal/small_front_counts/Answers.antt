use Rattle.std.proofs.Common.{◌^◌, arith, sym}
use Rattle.std.proofs.lemmas.Nat.{mul-le}
use Rattle.amd_model.proofs.Figures.Sums.{entries_closed}
use Rattle.amd_types.proofs.FrontShares.{lu_form, ldl_form, pairs_most, squares_most, border_most, steps_most}
use Rattle.amd_types.proofs.internal.small_front_counts.Goals as goal

pub overflow_mul-lu-3 : goal.overflow_mul-lu-3
overflow_mul-lu-3 c = let squares = squares_most c.args.f c.requires.few in omega (arith, squares)

pub overflow_add-lu-2 : goal.overflow_add-lu-2
overflow_add-lu-2 c =
    let squares = squares_most c.args.f c.requires.few in
    let steps = steps_most c.args.f c.requires.few c.args.r c.requires.few_outside in
    omega (arith, squares, steps)

pub overflow_add-result : goal.overflow_add-result
overflow_add-result c =
    let square = mul-le c.args.r c.args.r (2 ^ 20) (2 ^ 20) c.requires.few_outside c.requires.few_outside in
    omega (arith, square)

pub overflow_add-result-2 : goal.overflow_add-result-2
overflow_add-result-2 c =
    let pairs = pairs_most c.args.f c.requires.few in
    let squares = squares_most c.args.f c.requires.few in
    let border = border_most c.args.f c.requires.few c.args.r c.requires.few_outside in
    let steps = steps_most c.args.f c.requires.few c.args.r c.requires.few_outside in
    omega (arith, pairs, squares, border, steps)

pub returns : goal.returns
returns c = record {
  lnz = sym (entries_closed c.args.f c.args.r);
  ldl = sym (ldl_form c.args.f c.args.r);
  lu = sym (lu_form c.args.f c.args.r);
}

-- the forms for one row
pub returns-then-f-eq1 : goal.returns-then-f-eq1
returns-then-f-eq1 c = rw c.if-f-eq1.true record {
  lnz = let h = entries_closed 1 c.args.r in omega (arith, h);
  ldl = let h = ldl_form 1 c.args.r in omega (arith, h);
  lu = let h = lu_form 1 c.args.r in omega (arith, h);
}
