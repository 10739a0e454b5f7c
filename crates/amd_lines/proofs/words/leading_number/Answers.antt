-- Each digit adds to the number, and white space ends it.
use Rattle.std.proofs.Common.{sym, arith}
use Rattle.amd_lines.proofs.NumberLemmas.{number_more, number_ends, few_digits}
use Rattle.amd_lines.proofs.words.leading_number.Goals as goal

pub returns-then-not-is_ascii_digit-clause-ends : goal.returns-then-not-is_ascii_digit-clause-ends
returns-then-not-is_ascii_digit-clause-ends c =
    let some = c.if-place-eq0.false in
    let inside = c.digits-test.true in
    let least = c.min-end.ensures in
    (number_ends c.args.text.now c.digits.place c.digits.number (omega (arith, some)) (omega (arith, inside, least))
    (omega (arith, inside, least)) (sym c.if-not-is_ascii_whitespace.ensures.value) c.digits.invariant).0

pub returns-then-not-is_ascii_digit-clause-spells : goal.returns-then-not-is_ascii_digit-clause-spells
returns-then-not-is_ascii_digit-clause-spells c =
    let some = c.if-place-eq0.false in
    let inside = c.digits-test.true in
    let least = c.min-end.ensures in
    (number_ends c.args.text.now c.digits.place c.digits.number (omega (arith, some)) (omega (arith, inside, least))
    (omega (arith, inside, least)) (sym c.if-not-is_ascii_whitespace.ensures.value) c.digits.invariant).1

pub digits-preserved : goal.digits-preserved
digits-preserved c =
    let inside = c.digits-test.true in
    let least = c.min-end.ensures in
    number_more c.args.text.now c.digits.place c.digits.number (omega (arith, inside, least)) c.if-not-is_ascii_digit.ensures.cases
    c.digits.invariant

pub overflow_mul-number : goal.overflow_mul-number
overflow_mul-number c =
    let inside = c.digits-test.true in
    let least = c.min-end.ensures in
    let few = few_digits c.digits.place c.digits.number (omega (arith, inside, least)) c.digits.invariant.small in
    grind (arith, few)

pub overflow_add-number : goal.overflow_add-number
overflow_add-number c =
    let inside = c.digits-test.true in
    let least = c.min-end.ensures in
    let few = few_digits c.digits.place c.digits.number (omega (arith, inside, least)) c.digits.invariant.small in
    let high = c.if-not-is_ascii_digit.ensures.cases.1 in
    grind (arith, few)
