use Rattle.std.proofs.Common.{◌≡◌, ◌+◌, length, set, arith, inl, inr, refl, sym, ◌∙◌, subst}
use Rattle.std.specs.Prelude.{slice_index}
use Rattle.std.proofs.lemmas.Bool.{cases_eq}
use Rattle.std.proofs.lemmas.List.{get_or-set_same, get_or-set_other}
use Rattle.amd_model.proofs.Counting.Below.{sum_upto}
use Rattle.amd_count_laws.proofs.Sums.{sum-next, sum-none}
use Rattle.amd_factor.specs.Meetings.{sum_to}
use Rattle.amd_factor.proofs.sweep.add_up.Goals as goal

pub numbers-init : goal.numbers-init
numbers-init c = record {
  before = λ i h. absurd (omega (arith, h));
  rest = λ i h. refl;
  total = sym (sum-none (λ k. slice_index c.args.numbers.now k));
}

pub overflow_add-total : goal.overflow_add-total
overflow_add-total c =
    let up = sum_upto c.numbers.k (length c.args.numbers.now) (λ a. slice_index c.args.numbers.now a) c.numbers-test.true in
    let total = c.numbers.invariant.total in
    let here = c.numbers.invariant.rest c.numbers.k (omega arith) in
    let limit = c.requires in omega (arith, up, total, here, limit)

pub numbers-preserved : goal.numbers-preserved
numbers-preserved c =
    let total = c.numbers.invariant.total in
    let here = c.numbers.invariant.rest c.numbers.k (omega arith) in
    let next = sum-next (λ a. slice_index c.args.numbers.now a) c.numbers.k in
    let sum = c.numbers.total + slice_index c.numbers.numbers c.numbers.k in
    let same = c.numbers.auto.numbers in let inside = c.numbers-test.true in
    let at = get_or-set_same c.numbers.numbers c.numbers.k sum 0 (omega (arith, same, inside)) in record {
      before = λ i h. elim (cases_eq i c.numbers.k) [
        | inl e ↦ subst (λ v. slice_index (set c.numbers.numbers c.numbers.k sum) v ≡ sum_to c.args.numbers.now (v + 1)) (sym e)
            (omega (arith, at, total, here, next))
        | inr ne ↦ get_or-set_other c.numbers.numbers c.numbers.k i sum 0 ne ∙ c.numbers.invariant.before i (omega (arith, h, ne))
      ];
      rest = λ i h. get_or-set_other c.numbers.numbers c.numbers.k i sum 0 (λ e. omega (arith, e, h)) ∙ c.numbers.invariant.rest i
          (omega (arith, h));
      total = omega (arith, total, here, next);
    }
