use Rattle.std.proofs.Common.{ℕ, [], ◌≡◌, ◌-◌, ◌+◌, sym, ap, subst, ◌∙◌, arith, falls, le-add_right}
use Rattle.amd_words.specs.Words.{classes, rows}
use Rattle.amd_words.proofs.RowLists.{rows_none}
use Rattle.amd_words.proofs.WordCounts.{all_passed, none_passed}
use Rattle.amd_elements.specs.Element.{Gathers}
use Rattle.amd_elements.proofs.Gathering.{gathers_none, word_inside, word_one, row_inside, row_passed, row_class, row_fresh}
use Rattle.amd_elements.proofs.Gathering.{end_inside, sum_fits, row_taken}
use Rattle.amd_elements.proofs.element.gather.Goals as goal
use Rattle.amd_elements.proofs.element.gather.Goals.{then-is_open, else-is_open}

pub loop-p-init : goal.loop-p-init
loop-p-init g c = let none : classes c.args.nv.now (rows c.args.iw.now c.args.from (c.args.from - c.args.from)) ≡ [] =
    ap (λ n. classes c.args.nv.now (rows c.args.iw.now c.args.from n)) (none_passed c.args.from)
    ∙ ap (classes c.args.nv.now) (rows_none c.args.iw.now c.args.from) in
    rw none (gathers_none c.args.iw.now c.args.nv.now c.args.start c.args.free c.args.total c.requires.order c.requires.made
    c.requires.known c.requires.total_is)

pub named-row-requires-clause-inside : goal.named-row-requires-clause-inside
named-row-requires-clause-inside g c = word_inside c.loop-p.p c.requires c.loop-p.invariant c.loop-p.auto.p c.loop-p-test.true

pub named-row-requires-clause-is_one : goal.named-row-requires-clause-is_one
named-row-requires-clause-is_one g c = word_one c.loop-p.p c.requires c.loop-p.invariant c.loop-p.auto.p c.loop-p-test.true

pub is_open-requires : goal.is_open-requires
is_open-requires g c = row_inside c.loop-p.p c.requires c.loop-p.invariant c.loop-p.auto.p c.loop-p-test.true c.named-row.result
    c.named-row.ensures

pub copy_word-requires-clause-from : goal.copy_word-requires-clause-from
copy_word-requires-clause-from g c = word_inside c.loop-p.p c.requires c.loop-p.invariant c.loop-p.auto.p c.loop-p-test.true

pub copy_word-requires-clause-to : goal.copy_word-requires-clause-to
copy_word-requires-clause-to g c = end_inside c.loop-p.p c.requires c.loop-p.invariant c.loop-p.auto.p c.loop-p-test.true
    c.named-row.result c.named-row.ensures (sym c.is_open.ensures.is ∙ c.if-is_open.true)

pub enter-sum-requires-clause-inside : goal.enter-sum-requires-clause-inside
enter-sum-requires-clause-inside g c = row_inside c.loop-p.p c.requires c.loop-p.invariant c.loop-p.auto.p c.loop-p-test.true
    c.named-row.result c.named-row.ensures

pub enter-sum-requires-clause-class : goal.enter-sum-requires-clause-class
enter-sum-requires-clause-class g c = row_class c.loop-p.p c.requires c.loop-p.invariant c.loop-p.auto.p c.loop-p-test.true
    c.named-row.result c.named-row.ensures (sym c.is_open.ensures.is ∙ c.if-is_open.true)

pub enter-sum-requires-clause-fresh : goal.enter-sum-requires-clause-fresh
enter-sum-requires-clause-fresh g c = row_fresh c.loop-p.p c.requires c.loop-p.invariant c.loop-p.auto.p c.loop-p-test.true
    c.named-row.result c.named-row.ensures (sym c.is_open.ensures.is ∙ c.if-is_open.true)

pub overflow_add-sum : goal.overflow_add-sum
overflow_add-sum g c = let fits =
    sum_fits c.loop-p.p c.requires c.loop-p.invariant c.loop-p.auto.p c.loop-p-test.true c.named-row.result c.named-row.ensures
    (sym c.is_open.ensures.is ∙ c.if-is_open.true) c.enter-sum.result c.enter-sum.ensures.rows in
    omega (arith, fits)

pub overflow_add-end : goal.overflow_add-end
overflow_add-end g c = let inside = end_inside c.loop-p.p c.requires c.loop-p.invariant c.loop-p.auto.p c.loop-p-test.true
    c.named-row.result c.named-row.ensures (sym c.is_open.ensures.is ∙ c.if-is_open.true) in
    omega (arith, inside)

pub loop-p-preserved : goal.loop-p-preserved
loop-p-preserved g c = elim c.if-is_open.branch [
  | then-is_open w ↦ rw (w.iw-is, w.nv-is, w.end-is, w.sum-is, w.copy_word.ensures)
      (row_taken c.loop-p.p c.requires c.loop-p.invariant c.loop-p.auto.p c.loop-p-test.true c.named-row.result c.named-row.ensures
      (sym c.is_open.ensures.is ∙ w.if-is_open.true) w.enter-sum.new.nv w.enter-sum.result w.enter-sum.ensures.long
      w.enter-sum.ensures.sizes w.enter-sum.ensures.front w.enter-sum.ensures.rows)
  | else-is_open w ↦ rw (w.iw-is, w.nv-is, w.end-is, w.sum-is)
      (row_passed c.loop-p.p c.requires c.loop-p.invariant c.loop-p.auto.p c.loop-p-test.true c.named-row.result c.named-row.ensures
      (sym c.is_open.ensures.is ∙ w.if-is_open.false))
]

pub loop-p-smaller : goal.loop-p-smaller
loop-p-smaller g c = falls (c.args.from + c.args.count) c.loop-p.p c.loop-p-test.true

pub returns : goal.returns
returns g c =
    let from : ℕ = c.args.from in subst (λ m. Gathers c.args.iw.now c.args.nv.now c.args.start c.args.free
    (classes c.args.nv.now (rows c.args.iw.now from m)) c.loop-p.iw c.loop-p.nv c.loop-p.end c.loop-p.sum)
    (all_passed c.loop-p.p from c.args.count c.loop-p.auto.p (c.loop-p.auto.p-end (le-add_right from c.args.count)) c.loop-p-test.false)
    c.loop-p.invariant
