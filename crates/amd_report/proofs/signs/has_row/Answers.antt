-- Each turn leaves one half of the places.
use Rattle.std.proofs.Common.{◌+◌, ◌-◌, ◌/◌, ℕ, inl, inr, sym, ap, ◌∙◌, arith}
use Rattle.std.specs.Prelude.{slice_index}
use Rattle.std.proofs.lemmas.Bool.{cases_eq, cases_lt, false_from_ne_true, eq-eqb, eqb-true, ltb-true}
use Rattle.std.specs.Cmp.{both_ways}
use Rattle.amd_edges.proofs.Places.{before_from, before_gives, before_none}
use Rattle.amd_report.proofs.signs.has_row.Goals as goal

pub halves-preserved-then-a_i-middle : goal.halves-preserved-then-a_i-middle
halves-preserved-then-a_i-middle c =
    let middle : ℕ = c.halves.low + (c.halves.high - c.halves.low) / 2 in
    let from = c.halves.invariant.from in
    let to = c.halves.invariant.to in
    let some = c.halves-test.true in
    let here = c.if-a_i-middle.true in
    record {
      from = omega (arith, from);
      between = omega (arith, some);
      to = to;
      less = λ q x y. elim (cases_eq q middle) [
        | inl e ↦ rw e here
        | inr ne ↦ (let up = c.requires.form.rise c.args.column q middle c.requires.inside x (omega (arith, y, ne))
            (omega (arith, some, to)) in
            omega (arith, up, here))
      ];
      more = c.halves.invariant.more;
    }

pub halves-preserved : goal.halves-preserved
halves-preserved c =
    let middle : ℕ = c.halves.low + (c.halves.high - c.halves.low) / 2 in
    let from = c.halves.invariant.from in
    let to = c.halves.invariant.to in
    let some = c.halves-test.true in
    let here = c.if-a_i-middle.false in
    record {
      from = from;
      between = omega (arith, some);
      to = omega (arith, some, to);
      less = c.halves.invariant.less;
      more = λ q x y. elim (cases_eq q middle) [
        | inl e ↦ rw e (omega (arith, here))
        | inr ne ↦ (let up = c.requires.form.rise c.args.column middle q c.requires.inside (omega (arith, from)) (omega (arith, x, ne)) y in
            omega (arith, up, here))
      ];
    }

pub returns-then-low-end : goal.returns-then-low-end
returns-then-low-end c =
    let from = c.halves.invariant.from in
    let past = c.halves-test.false in
    let within = c.if-low-end.true in
    both_ways _ _
    (λ e. before_from c.args.a_p.now c.args.a_i.now _ c.args.row c.args.column c.halves.low from within (eqb-true _ _ e))
    (λ h. let found = before_gives c.args.a_p.now c.args.a_i.now _ c.args.row c.args.column h in
    let begin = found.1 in let end = found.2 in let is = found.3 in
    elim (cases_lt found.0 c.halves.low) [
      | inl l ↦ absurd (let x = c.halves.invariant.less found.0 begin l in omega (arith, x, is))
      | inr l ↦ elim (cases_eq found.0 c.halves.low) [
        | inl e ↦ eq-eqb _ _ (ap (slice_index c.args.a_i.now) (sym e) ∙ is)
        | inr ne ↦ absurd (let up = c.requires.form.rise c.args.column c.halves.low found.0 c.requires.inside from
            (omega (arith, l, ne)) end in
            let low = c.halves.invariant.more c.halves.low (omega (arith, past)) within in omega (arith, up, low, is))
      ]
    ])

pub returns-else-low-end : goal.returns-else-low-end
returns-else-low-end c =
    let outside = c.if-low-end.false in
    let past = c.halves-test.false in
    rw (before_none c.args.a_p.now c.args.a_i.now (slice_index c.args.a_p.now (c.args.column + 1)) c.args.row c.args.column
    (λ q x y z. let less = c.halves.invariant.less q x (omega (arith, y, outside)) in omega (arith, less, z)))
    (false_from_ne_true _ (λ e. let x = ltb-true _ _ e in omega (arith, x, outside)))
