use Rattle.std.proofs.Common.{ℕ, ℤ, List, ◌≡◌, ◌<◌, ◌≤◌, ◌+◌, ◌-◌, refl, sym, ap, subst, ◌∙◌, length, length-set, set}
use Rattle.amd_words.specs.Words.{word, place}
use Rattle.amd_words.proofs.WordMarks.{Marked, marked_none, marked_more}
use Rattle.std.proofs.Common.{le-add_right}
use Rattle.amd_words.proofs.WordCounts.{all_passed, next_place}
use Rattle.amd_lists.proofs.Spans.{span_one, span_row, word_from}
use Rattle.amd_merging.proofs.merging.spread.Goals as goal

pub loop-q-init : goal.loop-q-init
loop-q-init g c = record { long = refl; marked = marked_none c.args.iw.now c.args.from c.args.flag c.args.w.now }

pub named-x-requires-clause-is_one : goal.named-x-requires-clause-is_one
named-x-requires-clause-is_one g c = span_one c.requires.span c.loop-q.auto.q c.loop-q-test.true

pub put_cell-requires-clause-inside : goal.put_cell-requires-clause-inside
put_cell-requires-clause-inside g c = span_row c.requires.span c.loop-q.auto.q c.loop-q-test.true c.named-x.ensures
    c.loop-q.invariant.long

pub loop-q-preserved : goal.loop-q-preserved
loop-q-preserved g c =
    let iw : List ℤ = c.args.iw.now in let from : ℕ = c.args.from in let q : ℕ = c.loop-q.q in let k : ℕ = q - from in
    let after : from ≤ q = c.loop-q.auto.q in let next : q + 1 - from ≡ k + 1 = next_place after in
    let is : c.named-x.result ≡ place (word iw (from + k)) = word_from iw after c.named-x.ensures in
    let long = c.loop-q.invariant.long in
    let small : c.named-x.result < length c.loop-q.w = span_row c.requires.span after c.loop-q-test.true c.named-x.ensures long in
    record {
      long = ap length c.put_cell.ensures ∙ length-set c.loop-q.w c.named-x.result c.args.flag ∙ long;
      marked = rw c.put_cell.ensures (subst (λ m. Marked iw from m c.args.flag c.args.w.now
          (set c.loop-q.w c.named-x.result c.args.flag)) (sym next)
          (marked_more iw from k c.args.flag c.args.w.now c.loop-q.w c.loop-q.invariant.marked c.named-x.result is small));
    }

pub returns-clause-marked : goal.returns-clause-marked
returns-clause-marked g c = let t = c.loop-q-test.false in let after : c.args.from ≤ c.loop-q.q = c.loop-q.auto.q in
    let past : c.loop-q.q ≤ c.args.from + c.args.count = c.loop-q.auto.q-end (le-add_right _ _) in
    let all : c.loop-q.q - c.args.from ≡ c.args.count = all_passed _ _ _ after past t in
    subst (λ m. Marked c.args.iw.now c.args.from m c.args.flag c.args.w.now c.loop-q.w) all c.loop-q.invariant.marked
