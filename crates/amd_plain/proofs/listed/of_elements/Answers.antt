-- the goals of listed::of_elements.
use Rattle.std.proofs.Common.{ℕ, List, ◌+◌, cond, pos}
use Rattle.std.specs.Prelude.{nat_lt}
use Rattle.std.proofs.lemmas.Bool.{cond-true, cond-false, lt-ltb, le-ltb}
use Rattle.std.proofs.lemmas.Int.{ints}
use Rattle.std.proofs.lemmas.List.{length_push}
use Rattle.amd_model.specs.Input.Columns.{at}
use Rattle.amd_plain.specs.Views.{num}
use Rattle.amd_plain.proofs.HandedLists.{ats_push}
use Rattle.std.proofs.Common.{arith, length, ap, sym, ◌∙◌, ◌<◌, ◌≡◌, ◌^◌, subst, lt_of_lt_of_le, le_of_eq}
use borrow.Author.Count.{falls}
use Rattle.std.proofs.lemmas.Result.{IfOk-from_err}
use Rattle.amd_plain.proofs.listed.of_elements.Goals as goal
use Rattle.amd_plain.proofs.listed.of_elements.Goals.{then-block-e-gt0, else-block-e-gt0}

pub returns-in_err-sizes-clause-size : goal.returns-in_err-sizes-clause-size
returns-in_err-sizes-clause-size g c = IfOk-from_err c.from_residual.result _ c.from_residual.ensures.0

pub returns-in_err-sizes-clause-numbers : goal.returns-in_err-sizes-clause-numbers
returns-in_err-sizes-clause-numbers g c = IfOk-from_err c.from_residual.result _ c.from_residual.ensures.0

pub elements-init : goal.elements-init
elements-init g c = record { size = ap length c.in_ok-sizes.ensures.items; each = λ a l. absurd (omega (arith, l)) }

pub bounds-block-e : goal.bounds-block-e
bounds-block-e g c = c.elements-test.true

pub bounds-numbers-e : goal.bounds-numbers-e
bounds-numbers-e g c = lt_of_lt_of_le c.elements-test.true (le_of_eq (sym c.requires.lengths))

pub signed-requires : goal.signed-requires
signed-requires g c = record {
  fits = elim c.if-block-e-gt0.branch [
    | then-block-e-gt0 w ↦ subst (λ m. m < 2 ^ 63) (sym w.number-is) (c.requires.fits c.elements.e w.if-block-e-gt0.true)
    | else-block-e-gt0 w ↦ (let is = w.number-is in omega (arith, is))
  ];
}

pub returns-in_err-push-clause-size : goal.returns-in_err-push-clause-size
returns-in_err-push-clause-size g c = IfOk-from_err c.from_residual-in_err-push.result _ c.from_residual-in_err-push.ensures.0

pub returns-in_err-push-clause-numbers : goal.returns-in_err-push-clause-numbers
returns-in_err-push-clause-numbers g c = IfOk-from_err c.from_residual-in_err-push.result _ c.from_residual-in_err-push.ensures.0

pub elements-smaller : goal.elements-smaller
elements-smaller g c = falls (length c.args.block.now) c.elements.e c.elements-test.true

pub elements-preserved : goal.elements-preserved
elements-preserved g c =
    let was = c.elements.invariant in let items = c.in_ok-push.ensures.items in let i : ℕ = c.elements.e in
    let block : List ℕ = c.args.block.now in let numbers : List ℕ = c.args.numbers.now in
    let number : ℕ → ℕ = λ a. cond (nat_lt 0 (num block a)) (num numbers a) 0 in
    let small : c.if-block-e-gt0.number < 2 ^ 63 = elim c.if-block-e-gt0.branch [
      | then-block-e-gt0 w ↦ subst (λ m. m < 2 ^ 63) (sym w.number-is) (c.requires.fits i w.if-block-e-gt0.true)
      | else-block-e-gt0 w ↦ (let is = w.number-is in omega (arith, is))
    ] in
    let is : c.if-block-e-gt0.number ≡ number i = elim c.if-block-e-gt0.branch [
      | then-block-e-gt0 w ↦ w.number-is ∙
          sym (cond-true (nat_lt 0 (num block i)) (num numbers i) 0 (lt-ltb 0 (num block i) w.if-block-e-gt0.true))
      | else-block-e-gt0 w ↦ w.number-is ∙
          sym (cond-false (nat_lt 0 (num block i)) (num numbers i) 0 (le-ltb 0 (num block i) w.if-block-e-gt0.false))
    ] in
    let signed = c.signed.ensures in record {
      size = ap length items ∙ length_push c.elements.sizes.items _ ∙ ap (λ m. m + 1) was.size;
      each = λ a h. ap (λ l. at l a) items ∙ ats_push c.elements.sizes.items _ i (λ j. pos (number j)) was.size was.each
          (rw (sym is) (omega (arith, ints, signed, small))) a h;
    }

pub returns-clause-size : goal.returns-clause-size
returns-clause-size g c =
    let s = c.elements.invariant.size in let a = c.elements-test.false in let b = c.elements.auto.e-end in omega (arith, s, a, b)

pub returns-clause-numbers : goal.returns-clause-numbers
returns-clause-numbers g c = λ e l.
    let m = c.elements-test.false in c.elements.invariant.each e (omega (arith, l, m))
