use Rattle.std.proofs.Common.{ℕ, ℤ, List, ◌≡◌, ◌<◌, ◌≤◌, ◌+◌, ◌-◌, sym, ap, subst, ◌∙◌, arith, refl, length, cond, set, length-set}
use Rattle.std.proofs.Common.{get_or-set_same, get_or-set_other, pos}
use Rattle.amd_model.specs.Quotient.{has}
use Rattle.amd_words.specs.Words.{num, word, place, rows, flip_of}
use Rattle.amd_elements.proofs.Settling.{write_none, write_next}
use Rattle.std.proofs.Common.{lt_of_lt_of_le, le-add_right, zero-le, falls}
use Rattle.amd_words.proofs.WordCounts.{all_passed, next_place, none_passed}
use Rattle.amd_lists.proofs.Spans.{span_one, span_row, word_from}
use Rattle.amd_elements.proofs.making.absorb_own.Goals as goal

pub loop-p-init : goal.loop-p-init
loop-p-init g c = let z : 0 ≡ c.args.from - c.args.from = sym (none_passed c.args.from) in record {
  p_long = refl;
  w_long = refl;
  starts = λ e. subst (λ m. word c.args.pe.now e ≡ cond (has (rows c.args.iw.now c.args.from m) e) (flip_of c.args.me)
      (word c.args.pe.now e)) z (write_none c.args.iw.now c.args.from e (flip_of c.args.me) (word c.args.pe.now e));
  counters = λ e. subst (λ m. num c.args.w.now e ≡ cond (has (rows c.args.iw.now c.args.from m) e) 0 (num c.args.w.now e)) z
      (write_none c.args.iw.now c.args.from e 0 (num c.args.w.now e));
}

pub named-e-requires-clause-is_one : goal.named-e-requires-clause-is_one
named-e-requires-clause-is_one g c = span_one c.requires.span c.loop-p.auto.p c.loop-p-test.true

pub put_flip-requires-clause-inside : goal.put_flip-requires-clause-inside
put_flip-requires-clause-inside g c = span_row c.requires.span c.loop-p.auto.p c.loop-p-test.true c.named-e.ensures
    c.loop-p.invariant.p_long

pub put_cell-requires-clause-inside : goal.put_cell-requires-clause-inside
put_cell-requires-clause-inside g c = span_row c.requires.span c.loop-p.auto.p c.loop-p-test.true c.named-e.ensures
    (c.loop-p.invariant.w_long ∙ c.requires.lengths)

pub loop-p-preserved : goal.loop-p-preserved
loop-p-preserved g c =
    let iw : List ℤ = c.args.iw.now in let from : ℕ = c.args.from in let k : ℕ = c.loop-p.p - from in
    let after : from ≤ c.loop-p.p = c.loop-p.auto.p in let t = c.loop-p-test.true in let was = c.loop-p.invariant in
    let next : c.loop-p.p + 1 - from ≡ k + 1 = next_place after in
    let is : c.named-e.result ≡ place (word iw (from + k)) = word_from iw after c.named-e.ensures in
    let in_pe : c.named-e.result < length c.loop-p.pe = span_row c.requires.span after t c.named-e.ensures was.p_long in
    let in_w : c.named-e.result < length c.loop-p.w = span_row c.requires.span after t c.named-e.ensures (was.w_long ∙ c.requires.lengths)
    in
    let y : ℕ = c.named-e.result in record {
      p_long = (let a = ap length c.put_flip.ensures in let b = length-set c.loop-p.pe y (flip_of c.args.me) in let d = was.p_long in
          omega (arith, a, b, d));
      w_long = ap length c.put_cell.ensures ∙ length-set c.loop-p.w y 0 ∙ was.w_long;
      starts = subst (λ m. (e : ℕ) → word c.put_flip.new.words e
          ≡ cond (has (rows iw from m) e) (flip_of c.args.me) (word c.args.pe.now e)) (sym next)
          (write_next (word c.loop-p.pe) (word c.args.pe.now) (word c.put_flip.new.words) (flip_of c.args.me) iw from k y is was.starts
          (ap (λ xs. word xs y) c.put_flip.ensures ∙ get_or-set_same c.loop-p.pe y (flip_of c.args.me) (pos 0) in_pe)
          (λ x ne. ap (λ xs. word xs x) c.put_flip.ensures ∙ get_or-set_other c.loop-p.pe y x (flip_of c.args.me) (pos 0) ne));
      counters = rw c.put_cell.ensures (subst (λ m. (e : ℕ) →
          num (set c.loop-p.w y 0) e ≡ cond (has (rows iw from m) e) 0 (num c.args.w.now e)) (sym next)
          (write_next (num c.loop-p.w) (num c.args.w.now) (num (set c.loop-p.w y 0)) 0 iw from k y is was.counters
          (get_or-set_same c.loop-p.w y 0 0 in_w) (λ x ne. get_or-set_other c.loop-p.w y x 0 0 ne)));
    }

pub named-e-requires-clause-inside : goal.named-e-requires-clause-inside
named-e-requires-clause-inside g c = lt_of_lt_of_le c.loop-p-test.true c.requires.span.inside

pub put_flip-requires-clause-small : goal.put_flip-requires-clause-small
put_flip-requires-clause-small g c = c.requires.small

pub put_cell-requires-clause-fits : goal.put_cell-requires-clause-fits
put_cell-requires-clause-fits g c = zero-le

pub loop-p-smaller : goal.loop-p-smaller
loop-p-smaller g c = falls (c.args.from + c.args.count) c.loop-p.p c.loop-p-test.true

pub returns-clause-absorbs : goal.returns-clause-absorbs
returns-clause-absorbs g c = record {
  lengths = ((c.loop-p.invariant.p_long, c.loop-p.invariant.w_long));
  starts = (λ e. let from : ℕ = c.args.from in
      c.loop-p.invariant.starts e
      ∙ ap (λ m. cond (has (rows c.args.iw.now from m) e) (flip_of c.args.me) (word c.args.pe.now e))
      (all_passed c.loop-p.p from c.args.count c.loop-p.auto.p (c.loop-p.auto.p-end (le-add_right from c.args.count)) c.loop-p-test.false));
  counters = (λ e. let from : ℕ = c.args.from in
      c.loop-p.invariant.counters e
      ∙ ap (λ m. cond (has (rows c.args.iw.now from m) e) 0 (num c.args.w.now e))
      (all_passed c.loop-p.p from c.args.count c.loop-p.auto.p (c.loop-p.auto.p-end (le-add_right from c.args.count)) c.loop-p-test.false));
}
