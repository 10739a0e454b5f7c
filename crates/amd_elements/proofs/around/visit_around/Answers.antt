use Rattle.amd_lists.specs.Layout.{list_in}
use Rattle.std.proofs.Common.{ℕ, ◌+◌, ◌-◌, refl, sym, ap, subst, ◌∙◌, flat_map}
use Rattle.std.proofs.Common.{lt_of_lt_of_le, le_of_eq, le_trans, le-add_right}
use Rattle.amd_words.specs.Words.{start, rows, Names}
use Rattle.amd_words.proofs.RowLists.{rows_none}
use Rattle.amd_words.proofs.WordCounts.{all_passed, none_passed}
use Rattle.amd_elements.specs.Room.{named_around}
use Rattle.amd_elements.specs.Visiting.{visited}
use Rattle.amd_elements.proofs.ListsAround.{element_one, element_small, element_laid, list_before, list_names, list_visit, list_visited}
use Rattle.amd_elements.proofs.ListsAround.{rest_before, rest_names, rest_visit, rest_visited}
use Rattle.amd_elements.proofs.around.visit_around.Goals as goal

pub loop-p-init : goal.loop-p-init
loop-p-init g c = let s : ℕ = start c.args.pe.now c.args.pivot in record {
  held = subst (λ xs. g.V.ListVisitor.holds c.args.end (named_around c.args.iw.now c.args.pe.now c.args.len.now c.args.pivot
      c.args.n_elements) (flat_map (list_in c.args.iw.now c.args.pe.now c.args.len.now) xs)
      (visited c.args.iw.now c.args.nv.now c.args.visitor.now) (visited c.args.iw.now c.args.nv.now c.args.visitor.now))
      (sym (ap (rows c.args.iw.now s) (none_passed c.named-from.result) ∙ rows_none c.args.iw.now s)) c.requires.held;
  words = λ k l. refl;
  long = refl;
  wide = refl;
}

pub named-e-requires-clause-is_one : goal.named-e-requires-clause-is_one
named-e-requires-clause-is_one g c = element_one c.requires.lists c.loop-p.iw c.loop-p.invariant.words c.named-from.ensures
    c.loop-p.auto.p c.loop-p-test.true

pub named-first-requires-clause-inside : goal.named-first-requires-clause-inside
named-first-requires-clause-inside g c = lt_of_lt_of_le (element_small c.requires.lists c.loop-p.iw c.loop-p.invariant.words
    c.named-from.ensures c.loop-p.auto.p c.loop-p-test.true c.named-e.ensures) (le_of_eq (sym c.requires.lists.lengths.0))

pub named-first-requires-clause-is_one : goal.named-first-requires-clause-is_one
named-first-requires-clause-is_one g c = (element_laid c.requires.lists c.loop-p.iw c.loop-p.invariant.words c.named-from.ensures
    c.loop-p.auto.p c.loop-p-test.true c.named-e.ensures).0

pub cell_at-requires : goal.cell_at-requires
cell_at-requires g c = lt_of_lt_of_le (element_small c.requires.lists c.loop-p.iw c.loop-p.invariant.words
    c.named-from.ensures c.loop-p.auto.p c.loop-p-test.true c.named-e.ensures) (le_of_eq (sym c.requires.lists.lengths.1))

pub take-requires-clause-span : goal.take-requires-clause-span
take-requires-clause-span g c = record {
  inside = le_trans (list_before c.requires.lists c.loop-p.iw c.loop-p.invariant.words c.named-from.ensures c.loop-p.auto.p
      c.loop-p-test.true c.named-e.ensures c.named-first.ensures c.cell_at.ensures.is)
      (le_trans c.requires.end (le_of_eq (sym c.loop-p.invariant.long)));
  names = subst (λ n. Names n c.loop-p.iw c.named-first.result c.cell_at.result) (sym c.loop-p.invariant.wide)
      (list_names c.requires.lists c.loop-p.iw c.loop-p.invariant.words c.named-from.ensures c.loop-p.auto.p
      c.loop-p-test.true c.named-e.ensures c.named-first.ensures c.cell_at.ensures.is);
}

pub take-requires-clause-before : goal.take-requires-clause-before
take-requires-clause-before g c = list_before c.requires.lists c.loop-p.iw c.loop-p.invariant.words c.named-from.ensures c.loop-p.auto.p
    c.loop-p-test.true c.named-e.ensures c.named-first.ensures c.cell_at.ensures.is

pub take-requires-clause-held : goal.take-requires-clause-held
take-requires-clause-held g c = list_visit c.requires.lists c.loop-p.iw c.loop-p.invariant.words c.named-from.ensures
    c.loop-p.auto.p c.loop-p-test.true c.named-e.ensures c.named-first.ensures c.cell_at.ensures.is g.V.ListVisitor.holds
    (visited c.args.iw.now c.args.nv.now c.args.visitor.now) c.loop-p.invariant.held

pub loop-p-preserved : goal.loop-p-preserved
loop-p-preserved g c = record {
  held = list_visited c.requires.lists c.loop-p.iw c.loop-p.invariant.words c.named-from.ensures
      c.loop-p.auto.p c.loop-p-test.true c.named-e.ensures c.named-first.ensures c.cell_at.ensures.is g.V.ListVisitor.holds
      (visited c.args.iw.now c.args.nv.now c.args.visitor.now) c.loop-p.invariant.held c.take.ensures.held;
  words = λ k l. c.take.ensures.words k l ∙ c.loop-p.invariant.words k l;
  long = c.take.ensures.lengths.0 ∙ c.loop-p.invariant.long;
  wide = c.take.ensures.lengths.1 ∙ c.loop-p.invariant.wide;
}

pub take-requires-2-clause-span : goal.take-requires-2-clause-span
take-requires-2-clause-span g c = record {
  inside = le_trans (rest_before c.requires.lists c.loop-p.iw c.loop-p.invariant.words c.named-from.ensures c.cell_at-2.ensures.is)
      (le_trans c.requires.end (le_of_eq (sym c.loop-p.invariant.long)));
  names = subst (λ n. Names n c.loop-p.iw (c.named-from.result + c.args.n_elements) (c.cell_at-2.result - c.args.n_elements))
      (sym c.loop-p.invariant.wide)
      (rest_names c.requires.lists c.loop-p.iw c.loop-p.invariant.words c.named-from.ensures c.cell_at-2.ensures.is);
}

pub take-requires-2-clause-before : goal.take-requires-2-clause-before
take-requires-2-clause-before g c = rest_before c.requires.lists c.loop-p.iw c.loop-p.invariant.words c.named-from.ensures
    c.cell_at-2.ensures.is

pub take-requires-2-clause-held : goal.take-requires-2-clause-held
take-requires-2-clause-held g c = rest_visit c.requires.lists c.loop-p.iw c.loop-p.invariant.words c.named-from.ensures
    c.cell_at-2.ensures.is g.V.ListVisitor.holds (visited c.args.iw.now c.args.nv.now c.args.visitor.now)
    (subst (λ k. g.V.ListVisitor.holds c.args.end (named_around c.args.iw.now c.args.pe.now c.args.len.now c.args.pivot
    c.args.n_elements) (flat_map (list_in c.args.iw.now c.args.pe.now c.args.len.now) (rows c.args.iw.now
    (start c.args.pe.now c.args.pivot) k)) (visited c.args.iw.now c.args.nv.now c.args.visitor.now)
    (visited c.loop-p.iw c.loop-p.nv c.loop-p.visitor))
    (all_passed _ _ _ c.loop-p.auto.p (c.loop-p.auto.p-end (le-add_right _ _)) c.loop-p-test.false) c.loop-p.invariant.held)

pub returns-clause-held : goal.returns-clause-held
returns-clause-held g c = rest_visited c.requires.lists c.loop-p.iw c.loop-p.invariant.words c.named-from.ensures
    c.cell_at-2.ensures.is g.V.ListVisitor.holds (visited c.args.iw.now c.args.nv.now c.args.visitor.now)
    (subst (λ k. g.V.ListVisitor.holds c.args.end (named_around c.args.iw.now c.args.pe.now c.args.len.now c.args.pivot
    c.args.n_elements) (flat_map (list_in c.args.iw.now c.args.pe.now c.args.len.now) (rows c.args.iw.now
    (start c.args.pe.now c.args.pivot) k)) (visited c.args.iw.now c.args.nv.now c.args.visitor.now)
    (visited c.loop-p.iw c.loop-p.nv c.loop-p.visitor))
    (all_passed _ _ _ c.loop-p.auto.p (c.loop-p.auto.p-end (le-add_right _ _)) c.loop-p-test.false) c.loop-p.invariant.held)
    c.take-2.ensures.held

pub returns-clause-lengths : goal.returns-clause-lengths
returns-clause-lengths g c = (
  c.take-2.ensures.lengths.0 ∙ c.loop-p.invariant.long,
  c.take-2.ensures.lengths.1 ∙ c.loop-p.invariant.wide,
)
