use Rattle.std.proofs.Common.{◌≡◌, ◌+◌, ◌-◌, ◌<◌, ◌≤◌, ◌≤ℤ◌, ◌<ℤ◌, ◌∙◌, ℕ, ℤ, List, length, map, pos}
use Rattle.std.proofs.Common.{sym, ap, subst, arith, refl, le_trans, le_antisymm}
use Rattle.std.proofs.lemmas.List.{length-map}
use Rattle.std.proofs.lemmas.Bool.{false≢true, eqb-true}
use Rattle.std.proofs.lemmas.Int.{ints}
use Rattle.amd_model.specs.Input.Columns.{at, IsColumnForm, IsSorted}
use Rattle.amd_input.specs.Scans.{is_descent, descents_below}
use Rattle.amd_input.proofs.Classes.{not_below}
use Rattle.amd_input.proofs.Descents.{AreFirsts, descents_counted, descents_most, first_place, firsts_empty, firsts_more}
use Rattle.amd_input.proofs.valid.are_sorted.Goals as goal
use Rattle.amd_input.proofs.valid.are_sorted.Goals.{then-from-to+else-is_negative+else-not-is_below, else-from-to}
use Rattle.amd_input.proofs.valid.are_sorted.Goals.{then-from-gt0, else-from-gt0}

pub returns-in_default-clause-form : goal.returns-in_default-clause-form
returns-in_default-clause-form g c e = absurd (false≢true e)

pub returns-in_default-clause-sorted : goal.returns-in_default-clause-sorted
returns-in_default-clause-sorted g c e = absurd (false≢true e)

pub returns-in_default-to_count-clause-form : goal.returns-in_default-to_count-clause-form
returns-in_default-to_count-clause-form g c e = absurd (false≢true e)

pub returns-in_default-to_count-clause-sorted : goal.returns-in_default-to_count-clause-sorted
returns-in_default-to_count-clause-sorted g c e = absurd (false≢true e)

pub returns-then-to-from-clause-form : goal.returns-then-to-from-clause-form
returns-then-to-from-clause-form g c e = absurd (false≢true e)

pub returns-then-to-from-clause-sorted : goal.returns-then-to-from-clause-sorted
returns-then-to-from-clause-sorted g c e = absurd (false≢true e)

pub returns-then-is_negative-clause-form : goal.returns-then-is_negative-clause-form
returns-then-is_negative-clause-form g c e = absurd (false≢true e)

pub returns-then-is_negative-clause-sorted : goal.returns-then-is_negative-clause-sorted
returns-then-is_negative-clause-sorted g c e = absurd (false≢true e)

pub columns-init : goal.columns-init
columns-init g c =
    let begin = sym (c.in-Some.ensures.1 ∙ c.value_at.ensures) in
    let form = c.requires.form in
    let long = length-map c.args.a_i.now g.I.Index.value in
    record {
      firsts = record { most = omega arith; form = λ e. form; sorted = λ e. c.requires.sorted };
      begin = begin;
      ordered = omega arith;
      inside = (let within = form.within in omega (arith, ints, begin, within, long));
    }

pub overflow_add-firsts : goal.overflow_add-firsts
overflow_add-firsts g c =
    let ai : List ℤ = map g.I.Index.value c.args.a_i.now in
    let from : ℕ = c.columns.from in
    let is : c.if-from-gt0.from ≡ is_descent ai from = elim c.if-from-gt0.branch [
      | then-from-gt0 w ↦ w.from-is ∙ w.descends.ensures
      | else-from-gt0 w ↦ w.from-is ∙ first_place ai from w.if-from-gt0.false
    ] in
    let more = descents_counted ai from _ _ is c.from.ensures in
    let most = descents_most ai (from + 1) in
    let old = c.columns.invariant.firsts.most in
    omega arith

-- a column with rows more, where `one` counts whether its first place is a descent
behind_rows : (m : ℤ) (ap' ai : List ℤ) (j end from to start firsts one pointers : ℕ) → length ap' ≡ pointers → at ap' j ≡ pos from →
    at ap' (j + 1) ≡ pos to → from < to → to ≤ length ai → j < end → end < pointers → pos 0 ≤ℤ at ai from → at ai (to - 1) <ℤ m →
    descents_below ai (from + 1) ≡ descents_below ai from + one → AreFirsts m ap' ai j from (descents_below ai start + firsts) →
    AreFirsts m ap' ai (j + 1) to (descents_below ai start + (firsts + one))
behind_rows m ap' ai j end from to start firsts one pointers long a b some inside more room low high count old =
    firsts_more m ap' ai j from to (descents_below ai start + firsts) one (descents_below ai start + (firsts + one)) a b some inside
    (omega (arith, long, more, room)) low high count (omega arith) old

-- an empty column more
behind_none : (m : ℤ) (ap' ai : List ℤ) (j end from to firsts pointers : ℕ) → length ap' ≡ pointers → at ap' j ≡ pos from →
    at ap' (j + 1) ≡ pos to → to ≡ from → from ≤ length ai → j < end → end < pointers → AreFirsts m ap' ai j from firsts →
    AreFirsts m ap' ai (j + 1) to firsts
behind_none m ap' ai j end from to firsts pointers long a b e inside more room old =
    rw e (firsts_empty m ap' ai j from firsts a (b ∙ ap pos e) inside (omega (arith, long, more, room)) old)

pub columns-preserved : goal.columns-preserved
columns-preserved g c =
    let n = g.I.Index.value in
    let m : ℤ = n c.args.n_row in
    let ap' : List ℤ = map n c.args.a_p.now in
    let ai : List ℤ = map n c.args.a_i.now in
    let from : ℕ = c.columns.from in
    let to : ℕ = c.in-Some-to_count.to in
    let b : at ap' (c.columns.j + 1) ≡ pos to = sym c.value_at-in-columns.ensures ∙ sym c.in-Some-to_count.ensures.1 in
    let inside : to ≤ length ai = subst (λ z. to ≤ z) (sym (length-map c.args.a_i.now n)) c.if-to-a_i.false in
    let old = c.columns.invariant in
    let first : ℕ = c.in-Some.start in
    elim c.if-from-to.branch [
      | then-from-to+else-is_negative+else-not-is_below w ↦
          (let is : w.if-from-gt0.from ≡ is_descent ai from = elim w.if-from-gt0.branch [
            | then-from-gt0 v ↦ v.from-is ∙ v.descends.ensures
            | else-from-gt0 v ↦ v.from-is ∙ first_place ai from v.if-from-gt0.false
          ] in
          let low : pos 0 ≤ℤ at ai from =
          not_below (at ai from)
          (λ h. false≢true (w.if-is_negative.ensures.1 (subst (λ z. z <ℤ pos 0) (sym w.value_at-then-from-to.ensures) h))) in
          let high : at ai (to - 1) <ℤ m = subst (λ z. z <ℤ m) w.value_at-last.ensures (w.if-not-is_below.ensures.0 refl) in
          let count = descents_counted ai from w.from.result w.if-from-gt0.from is w.from.ensures in
          record {
            firsts = rw w.firsts-is (behind_rows m ap' ai c.columns.j c.args.end from to first c.columns.firsts w.from.result
                (length c.args.a_p.now) (length-map c.args.a_p.now n) old.begin b w.if-from-to.true inside c.columns-test.true
                c.requires.pointers low high count old.firsts);
            begin = b;
            ordered = le_trans old.ordered c.if-to-from.false;
            inside = c.if-to-a_i.false;
          })
      | else-from-to w ↦
          (let e : to ≡ from = le_antisymm w.if-from-to.false c.if-to-from.false in
          record {
            firsts = rw w.firsts-is (behind_none m ap' ai c.columns.j c.args.end from to (descents_below ai first + c.columns.firsts)
                (length c.args.a_p.now) (length-map c.args.a_p.now n) old.begin b e
                (subst (λ z. from ≤ z) (sym (length-map c.args.a_i.now n)) old.inside) c.columns-test.true c.requires.pointers old.firsts);
            begin = b;
            ordered = le_trans old.ordered c.if-to-from.false;
            inside = c.if-to-a_i.false;
          })
    ]

pub returns-clause-form : goal.returns-clause-form
returns-clause-form g c e =
    let n = g.I.Index.value in
    let ai : List ℤ = map n c.args.a_i.now in
    let all = ap (λ z. descents_below ai c.in-Some.start + z) (eqb-true c.columns.firsts c.descents.result e) ∙ c.descents.ensures in
    subst (λ z. IsColumnForm (n c.args.n_row) z (map n c.args.a_p.now) ai)
    (le_antisymm (c.columns.auto.j-end c.requires.ordered) c.columns-test.false) (c.columns.invariant.firsts.form all)

pub returns-clause-sorted : goal.returns-clause-sorted
returns-clause-sorted g c e =
    let n = g.I.Index.value in
    let ai : List ℤ = map n c.args.a_i.now in
    let all = ap (λ z. descents_below ai c.in-Some.start + z) (eqb-true c.columns.firsts c.descents.result e) ∙ c.descents.ensures in
    subst (λ z. IsSorted z (map n c.args.a_p.now) ai)
    (le_antisymm (c.columns.auto.j-end c.requires.ordered) c.columns-test.false) (c.columns.invariant.firsts.sorted all)
