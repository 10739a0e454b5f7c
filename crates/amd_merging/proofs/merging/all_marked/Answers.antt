use Rattle.amd_model.proofs.Counting.Below.{clash}
use Rattle.std.proofs.Common.{ℕ, ℤ, List, inl, inr, ◌≡◌, ◌<◌, ◌≤◌, ◌+◌, ◌-◌, refl, sym, ap, subst, ◌∙◌, true, le-add_right}
use Rattle.std.specs.Prelude.{◌==◌}
use Rattle.std.proofs.lemmas.Bool.{cases_Bool, eq-eqb, ne_eqb}
use Rattle.amd_model.specs.Quotient.{each}
use Rattle.amd_model.proofs.Quotient.Lists.{each_gives}
use Rattle.amd_words.specs.Words.{num, word, place, rows}
use Rattle.amd_words.proofs.RowLists.{rows_has}
use Rattle.amd_words.proofs.WordMarks.{each_none, each_more}
use Rattle.amd_words.proofs.WordCounts.{all_passed, next_place, within_count}
use Rattle.amd_lists.proofs.Spans.{span_one, span_row, word_from}
use Rattle.amd_merging.proofs.merging.all_marked.Goals as goal

pub loop-q-init : goal.loop-q-init
loop-q-init g c = each_none (λ x. num c.args.w.now x == c.args.flag) c.args.iw.now c.args.from

pub named-x-requires-clause-is_one : goal.named-x-requires-clause-is_one
named-x-requires-clause-is_one g c = span_one c.requires c.loop-q.auto.q c.loop-q-test.true

pub cell_at-mark-requires : goal.cell_at-mark-requires
cell_at-mark-requires g c = span_row c.requires c.loop-q.auto.q c.loop-q-test.true c.named-x.ensures refl

pub returns-then-mark-flag : goal.returns-then-mark-flag
returns-then-mark-flag g c =
    let iw : List ℤ = c.args.iw.now in let from : ℕ = c.args.from in let q : ℕ = c.loop-q.q in let k : ℕ = q - from in
    let after : from ≤ q = c.loop-q.auto.q in let t = c.loop-q-test.true in
    let l : k < c.args.count = within_count after t in
    let is : c.named-x.result ≡ place (word iw (from + k)) = word_from iw after c.named-x.ensures in
    let marks = λ (x : ℕ). num c.args.w.now x == c.args.flag in
    elim (cases_Bool (each marks (rows iw from c.args.count))) [
      | inr f ↦ sym f
      | inl h ↦ clash (each_gives marks (rows iw from c.args.count) h _ (rows_has iw from c.args.count k l)) (ap marks (sym is)
          ∙ ap (λ v. v == c.args.flag) (sym c.cell_at-mark.ensures.is) ∙ ne_eqb _ _ c.if-mark-flag.true)
    ]

pub loop-q-preserved : goal.loop-q-preserved
loop-q-preserved g c =
    let iw : List ℤ = c.args.iw.now in let from : ℕ = c.args.from in let q : ℕ = c.loop-q.q in let k : ℕ = q - from in
    let after : from ≤ q = c.loop-q.auto.q in let next : q + 1 - from ≡ k + 1 = next_place after in
    let is : c.named-x.result ≡ place (word iw (from + k)) = word_from iw after c.named-x.ensures in
    let marks = λ (x : ℕ). num c.args.w.now x == c.args.flag in
    subst (λ m. each marks (rows iw from m) ≡ true) (sym next) (each_more marks iw from k c.loop-q.invariant (ap marks (sym is)
    ∙ ap (λ v. v == c.args.flag) (sym c.cell_at-mark.ensures.is) ∙ eq-eqb _ _ c.if-mark-flag.false))

pub returns : goal.returns
returns g c = let t = c.loop-q-test.false in let after : c.args.from ≤ c.loop-q.q = c.loop-q.auto.q in
    let past : c.loop-q.q ≤ c.args.from + c.args.count = c.loop-q.auto.q-end (le-add_right _ _) in
    let all : c.loop-q.q - c.args.from ≡ c.args.count = all_passed _ _ _ after past t in
    sym (subst (λ m. each (λ x. num c.args.w.now x == c.args.flag) (rows c.args.iw.now c.args.from m) ≡ true) all c.loop-q.invariant)
