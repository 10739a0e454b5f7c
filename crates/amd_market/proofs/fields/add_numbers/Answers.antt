-- Each turn adds the number of one field more.
use Rattle.std.proofs.Common.{ℕ, inr, sym, [], ◌++◌, ◌∷◌, ap, ◌∙◌, append_assoc, append-nil, length-append, take, drop, subst, arith}
use Rattle.amd_market.specs.Boeing.{SpellsField, SpellsFields}
use Rattle.amd_market.specs.Faults.{HasFieldFault}
use Rattle.amd_market.proofs.BoeingLemmas.{behind-more, fields-turn, take-least, drop-least}
use Rattle.amd_market.proofs.fields.add_numbers.Goals as goal

pub returns-clause-adds : goal.returns-clause-adds
returns-clause-adds g c =
    let inv = c.fields.invariant in
    let size = inv.1 in
    let spelled = subst (λ z. SpellsFields c.args.width c.args.bound c.args.line.now z) (append-nil inv.0) (inv.3 [] tt) in
    (inv.0, omega (arith, size), inv.2, spelled)

pub returns-in_default-clause-fault : goal.returns-in_default-clause-fault
returns-in_default-clause-fault g c =
    let inv = c.fields.invariant in
    let left = c.fields.left.now in
    let size = inv.1 in
    let test = c.fields-test.true in
    let front = c.split_at.ensures.front ∙ ap (λ m. take m left) c.min.ensures ∙ take-least c.args.width left in
    let here = front ∙ ap (take c.args.width) inv.4 in
    inr (record {
      numbers = inv.0;
      few = omega (arith, size, test);
      spells = subst (λ z. SpellsFields c.args.width c.args.bound c.args.line.now z) (append-nil inv.0) (inv.3 [] tt);
      none = subst (λ z. (k : ℕ) → SpellsField z c.args.bound k → ⊥) here c.in_default.ensures;
      has = subst (HasFieldFault c.args.listed c.args.bound c.field_fault.result) here c.field_fault.ensures;
    })

pub fields-preserved : goal.fields-preserved
fields-preserved g c =
    let inv = c.fields.invariant in
    let k = c.in-Some.number in
    let left = c.fields.left.now in
    let size = inv.1 in
    let one = length-append inv.0 (k ∷ []) in
    let front = c.split_at.ensures.front ∙ ap (λ m. take m left) c.min.ensures ∙ take-least c.args.width left in
    let back = c.split_at.ensures.back ∙ ap (λ m. drop m left) c.min.ensures ∙ drop-least c.args.width left in (
      inv.0 ++ k ∷ [],
      omega (arith, size, one),
      c.in_ok-push.ensures.items ∙ ap (λ z. z ++ k ∷ []) inv.2 ∙ append_assoc c.args.numbers.now.items inv.0 (k ∷ []),
      λ ks h. fields-turn c.args.width c.args.bound c.args.line.now left _ _ inv.0 ks k front back inv.3 c.in-Some.ensures h,
      back ∙ ap (drop c.args.width) inv.4 ∙ sym (behind-more c.args.width c.args.line.now inv.0 k),
    )
