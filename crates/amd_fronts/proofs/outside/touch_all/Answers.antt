use Rattle.std.proofs.Common.{rules}
-- The goals of outside::touch_all.
use Rattle.std.proofs.Common.{ℕ, ℤ, Bool, List, ◌≡◌, ◌<◌, ◌≤◌, ◌+◌, ◌-◌, refl, sym, ap, subst, ◌∙◌, cond, length}
use Rattle.std.specs.Prelude.{◌==◌}
use Rattle.std.proofs.lemmas.Bool.{eq-eqb, ne_eqb, cond-true, cond-false}
use Rattle.amd_model.specs.Quotient.{has}
use Rattle.amd_words.specs.Words.{num, word, is_place, flip_of, rows}
use Rattle.amd_fronts.specs.Counts.{touched, ends, settled}
use Rattle.amd_fronts.specs.Tallies.{settled_in, ends_in}
use Rattle.amd_words.proofs.EachRow.{cond_both, each_none, each_fresh, each_next}
use Rattle.std.proofs.Common.{add-sub_of_le, le-add_right, lt_of_le_of_lt, lt_of_lt_of_le, le_of_eq, le_trans}
use Rattle.amd_words.proofs.WordCounts.{all_passed, within_count}
use Rattle.amd_fronts.proofs.WordReads.{word_read}
use Rattle.amd_fronts.proofs.outside.touch_all.Goals as goal

pub loop-q-init : goal.loop-q-init
loop-q-init g c = record {
  long = refl;
  p_long = refl;
  counted = each_none c.args.iw.now c.args.from (num c.args.w.now) _;
  starts = each_none c.args.iw.now c.args.from (word c.args.pe.now) _;
}

pub named-e-requires-clause-is_one : goal.named-e-requires-clause-is_one
named-e-requires-clause-is_one g c =
    let iw : List ℤ = c.args.iw.now in let from : ℕ = c.args.from in let q : ℕ = c.loop-q.q in let k : ℕ = q - from in
    let after : from ≤ q = c.loop-q.auto.q in let t = c.loop-q-test.true in
    let at : from + k ≡ q = add-sub_of_le after in let l : k < c.args.count = within_count after t in
    ap (λ m. is_place (word iw m)) (sym at) ∙ (c.requires.all.names k l).0

pub touch_or_end-requires : goal.touch_or_end-requires
touch_or_end-requires g c =
    let r = c.requires.all in let was = c.loop-q.invariant in let e : ℕ = c.named-e.result in
    let read = word_read c.args.iw.now c.loop-q.auto.q c.loop-q-test.true c.named-e.ensures r.once in
    let same : num c.loop-q.w e ≡ num c.args.w.now e = each_fresh c.args.iw.now c.args.from _ (num c.args.w.now) (num c.loop-q.w) _
    was.counted e read.fresh in
    let small : e < length c.args.w.now = lt_of_le_of_lt (le_of_eq read.is) (r.names _ read.inside).1 in
    let long = was.long in let p_long = was.p_long in let d = r.lengths.0 in let p = r.lengths.1 in record {
      touch = record {
        inside = (lt_of_lt_of_le small (le_of_eq (sym long)), lt_of_lt_of_le small (le_of_eq (sym d)));
        again = λ h. le_trans (r.again e read.named (le_trans h (le_of_eq same))) (le_of_eq (sym same));
        first = λ h. r.first e read.named (lt_of_lt_of_le h (le_of_eq same));
        fits = c.requires.all.fits e small;
      };
      end = (lt_of_lt_of_le small (le_of_eq (sym (p_long ∙ p))), c.requires.small);
    }

pub loop-q-preserved : goal.loop-q-preserved
loop-q-preserved g c =
    let iw : List ℤ = c.args.iw.now in let from : ℕ = c.args.from in let k : ℕ = c.loop-q.q - from in
    let r = c.requires.all in let was = c.loop-q.invariant in let e : ℕ = c.named-e.result in
    let read = word_read c.args.iw.now c.loop-q.auto.q c.loop-q-test.true c.named-e.ensures r.once in
    let same : num c.loop-q.w e ≡ num c.args.w.now e = each_fresh c.args.iw.now c.args.from _ (num c.args.w.now) (num c.loop-q.w) _
    was.counted e read.fresh in
    let ag : Bool = c.args.tally.aggressive in let flag : ℕ = c.args.tally.flag in
    let top : ℕ → ℕ = λ x. touched flag (num c.args.degree.now x) c.args.tally.more (num c.args.w.now x) in
    let end : ℕ → ℤ = λ x. cond (ends ag flag (top x)) (flip_of c.args.tally.me) (word c.args.pe.now x) in
    let now : ℕ → ℕ = λ m. touched flag (num c.args.degree.now e) c.args.tally.more m in
    record {
      long = c.touch_or_end.ensures.long.0 ∙ was.long;
      p_long = c.touch_or_end.ensures.long.1 ∙ was.p_long;
      counted = subst (λ m. (x : ℕ) → num c.touch_or_end.new.w x ≡ cond (has (rows iw from m) x) (settled ag flag (top x))
          (num c.args.w.now x))
          (sym read.next) (each_next iw from k (num c.args.w.now) (num c.loop-q.w) (λ x. settled ag flag (top x)) was.counted e read.is
          read.fresh (num c.touch_or_end.new.w) (λ h. c.touch_or_end.ensures.counted e
          ∙ cond-true (e == e) (settled ag flag (now (num c.loop-q.w e))) (num c.loop-q.w e) (eq-eqb e e refl)
          ∙ ap (λ m. settled ag flag (now m)) same)
          (λ x ne. c.touch_or_end.ensures.counted x ∙ cond-false (x == e) (settled ag flag (now (num c.loop-q.w e)))
          (num c.loop-q.w x) (ne_eqb x e ne)));
      starts = subst (λ m. (x : ℕ) → word c.touch_or_end.new.pe x ≡ cond (has (rows iw from m) x) (end x) (word c.args.pe.now x))
          (sym read.next) (each_next iw from k (word c.args.pe.now) (word c.loop-q.pe) end was.starts e read.is read.fresh
          (word c.touch_or_end.new.pe) (λ h. c.touch_or_end.ensures.starts e
          ∙ cond_both (e == e) (ends ag flag (now (num c.loop-q.w e))) (flip_of c.args.tally.me) (word c.loop-q.pe e)
          ∙ cond-true (e == e) (cond (ends ag flag (now (num c.loop-q.w e))) (flip_of c.args.tally.me) (word c.loop-q.pe e))
          (word c.loop-q.pe e) (eq-eqb e e refl)
          ∙ ap (λ m. cond (ends ag flag (now m)) (flip_of c.args.tally.me) (word c.loop-q.pe e)) same
          ∙ ap (cond (ends ag flag (top e)) (flip_of c.args.tally.me)) h)
          (λ x ne. c.touch_or_end.ensures.starts x ∙ cond_both (x == e) (ends ag flag (now (num c.loop-q.w e))) (flip_of c.args.tally.me)
          (word c.loop-q.pe x)
          ∙ cond-false (x == e) (cond (ends ag flag (now (num c.loop-q.w e))) (flip_of c.args.tally.me) (word c.loop-q.pe x))
          (word c.loop-q.pe x) (ne_eqb x e ne)));
    }

pub returns-clause-touches : goal.returns-clause-touches
returns-clause-touches g c = record {
  long = search rules;
  counted = (let t = c.loop-q-test.false in let after : c.args.from ≤ c.loop-q.q = c.loop-q.auto.q in
      let past : c.loop-q.q ≤ c.args.from + c.args.count = c.loop-q.auto.q-end (le-add_right _ _) in
      let all : c.loop-q.q - c.args.from ≡ c.args.count = all_passed _ _ _ after past t in
      subst (λ m. (e : ℕ) → num c.loop-q.w e ≡ cond (has (rows c.args.iw.now c.args.from m) e)
      (settled_in c.args.tally c.args.degree.now c.args.w.now e)
      (num c.args.w.now e)) all c.loop-q.invariant.counted);
  starts = (λ e. let t = c.loop-q-test.false in let after : c.args.from ≤ c.loop-q.q = c.loop-q.auto.q in
      let past : c.loop-q.q ≤ c.args.from + c.args.count = c.loop-q.auto.q-end (le-add_right _ _) in
      let all : c.loop-q.q - c.args.from ≡ c.args.count = all_passed _ _ _ after past t in
      let last : ℕ → Bool = ends_in c.args.tally c.args.degree.now c.args.w.now in
      subst (λ m. word c.loop-q.pe e ≡ cond (has (rows c.args.iw.now c.args.from m) e)
      (cond (last e) (flip_of c.args.tally.me) (word c.args.pe.now e)) (word c.args.pe.now e)) all (c.loop-q.invariant.starts e)
      ∙ sym (cond_both (has (rows c.args.iw.now c.args.from c.args.count) e) (last e) (flip_of c.args.tally.me) (word c.args.pe.now e)));
}
