use Rattle.std.proofs.Common.{◌≡◌, ◌≤◌, ◌∙◌, ℤ, List, map, length, pos, ap, arith, subst, sym}
use Rattle.std.specs.Int.{FitsUnsignedBits}
use Rattle.std.proofs.lemmas.Int.{ints}
use Rattle.std.proofs.lemmas.List.{length-map}
use Rattle.amd_model.specs.Input.Columns.{IsRow, at}
use Rattle.amd_edges.proofs.Forms.{pointer_fits}
use Rattle.amd_factor.proofs.forms.is_form.Goals as goal

pub returns-in_default-to_count-clause-none : goal.returns-in_default-to_count-clause-none
returns-in_default-to_count-clause-none g c = λ no form.
    c.in_default-to_count.ensures (subst (FitsUnsignedBits 64) (sym c.value_at-2.ensures)
    (pointer_fits _ _ _ form c.args.size (omega arith) (simp length-map (omega arith))))

pub returns-clause-form : goal.returns-clause-form
returns-clause-form g c = λ all.
    let a_p : List ℤ = map g.I.Index.value c.args.a_p.now in
    let a_i : List ℤ = map g.I.Index.value c.args.a_i.now in
    let count = c.in-Some-to_count.count in
    let total : at a_p c.args.size ≡ pos count = sym c.value_at-2.ensures ∙ sym c.in-Some-to_count.ensures.1 in
    let few : count ≤ length a_i = simp length-map (omega arith) in
    record {
      enough = simp length-map (omega arith);
      first = sym (c.in-Some.ensures.1 ∙ c.value_at.ensures) ∙ ap pos c.if-first-ne0.false;
      ascending = c.ascend.ensures.ascend c.if-not-ascend.false;
      within = omega (arith, ints, total, few);
      rows = λ k l. subst (λ m. IsRow m (at a_i k)) c.requires.size (c.are_rows.ensures.are all k (omega (arith, ints, total, l)));
    }

pub returns-then-size-a_p-clause-none : goal.returns-then-size-a_p-clause-none
returns-then-size-a_p-clause-none g c = λ no form. (
    let low = form.enough in let n = length-map c.args.a_p.now g.I.Index.value in let most = c.if-size-a_p.true in
    omega (arith, low, n, most))

pub returns-then-not-ascend-clause-none : goal.returns-then-not-ascend-clause-none
returns-then-not-ascend-clause-none g c = λ no form. (
    let d = c.ascend.ensures.descend c.if-not-ascend.true in let a = form.ascending d.0 d.1 in let b = d.2 in omega (arith, ints, a, b))

pub value_at-requires : goal.value_at-requires
value_at-requires g c = let low = c.if-size-a_p.false in omega (arith, low)

pub value_at-requires-2 : goal.value_at-requires-2
value_at-requires-2 g c = c.if-size-a_p.false

pub ascend-requires : goal.ascend-requires
ascend-requires g c = record { within = c.if-size-a_p.false }

pub are_rows-requires : goal.are_rows-requires
are_rows-requires g c = record { within = c.if-count-a_i.false }

pub returns-in_default-clause-none : goal.returns-in_default-clause-none
returns-in_default-clause-none g c = λ no form.
    c.in_default.ensures (subst (FitsUnsignedBits 64) (sym c.value_at.ensures)
    (pointer_fits _ _ _ form 0 (omega arith) (simp length-map (omega arith))))

pub returns-then-first-ne0-clause-none : goal.returns-then-first-ne0-clause-none
returns-then-first-ne0-clause-none g c = λ no form. (
    let first = c.in-Some.ensures.1 ∙ c.value_at.ensures ∙ form.first in let other = c.if-first-ne0.true in
    omega (arith, ints, first, other))

pub returns-then-count-a_i-clause-none : goal.returns-then-count-a_i-clause-none
returns-then-count-a_i-clause-none g c = λ no form. (
    let total = sym c.value_at-2.ensures ∙ sym c.in-Some-to_count.ensures.1 in let within = form.within in
    let n = length-map c.args.a_i.now g.I.Index.value in let more = c.if-count-a_i.true in omega (arith, ints, total, within, n, more))

pub returns-clause-none : goal.returns-clause-none
returns-clause-none g c = λ no form. (
    let a_i : List ℤ = map g.I.Index.value c.args.a_i.now in let d = c.are_rows.ensures.are_not no in let low = d.1 in
    let total = sym c.value_at-2.ensures ∙ sym c.in-Some-to_count.ensures.1 in
    d.2 (subst (λ m. IsRow m (at a_i d.0)) (sym c.requires.size) (form.rows d.0 (omega (arith, ints, total, low)))))
