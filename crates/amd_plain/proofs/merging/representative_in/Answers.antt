-- the goals of merging::representative_in.
use Rattle.std.proofs.Common.{ap, sym, ◌∙◌}
use Rattle.std.proofs.lemmas.Bool.{eqb-true, false≢true}
use Rattle.std.proofs.lemmas.List.{nil_from_length}
use Rattle.amd_model.specs.Quotient.{has}
use Rattle.std.proofs.Common.{◌||◌, length, lt_of_lt_of_le, le_of_eq}
use Rattle.amd_plain.specs.Views.{mark_at}
use Rattle.amd_plain.proofs.ListPlaces.{list_deref}
use Rattle.amd_plain.proofs.ReadLists.{read_below, cleared_own}
use Rattle.amd_plain.proofs.merging.representative_in.Goals as goal

pub returns-then-is_empty-clause-found : goal.returns-then-is_empty-clause-found
unfolding has
returns-then-is_empty-clause-found g c = λ r h.
    let none = nil_from_length c.args.group.now (eqb-true _ _ (sym c.is_empty.ensures ∙ c.if-is_empty.true)) in
    absurd (false≢true (sym (ap (λ xs. has xs r) none) ∙ h))

pub first_alike-found-requires-clause-elements : goal.first_alike-found-requires-clause-elements
first_alike-found-requires-clause-elements g c = (
  ap length c.deref-3.ensures.value ∙ c.mark_all.ensures.size ∙ c.requires.elements.0,
  λ j. ap (λ l. mark_at l j) c.deref-3.ensures.value ∙ c.mark_all.ensures.marked j
      ∙ ap (λ b. b || has c.deref.result.now j) (c.requires.elements.1 j)
      ∙ ap (λ xs. has xs j) (list_deref c.args.lists.now.elements.items c.args.i c.index.result.now _ c.requires.comparable.row
      c.index.ensures
      c.deref.ensures.value),
)

pub first_alike-found-requires-clause-rows : goal.first_alike-found-requires-clause-rows
first_alike-found-requires-clause-rows g c = (
  ap length c.deref-4.ensures.value ∙ c.mark_all-2.ensures.size ∙ c.requires.rows.0,
  λ j. ap (λ l. mark_at l j) c.deref-4.ensures.value ∙ c.mark_all-2.ensures.marked j
      ∙ ap (λ b. b || has c.deref-2.result.now j) (c.requires.rows.1 j)
      ∙ ap (λ xs. has xs j) (list_deref c.args.lists.now.variables.items c.args.i c.index-2.result.now _
      (lt_of_lt_of_le c.requires.comparable.row (le_of_eq (sym c.requires.comparable.variables.0))) c.index-2.ensures
      c.deref-2.ensures.value),
)

pub first_alike-found-requires-clause-comparable : goal.first_alike-found-requires-clause-comparable
first_alike-found-requires-clause-comparable g c = c.requires.comparable

pub clear_all-requires : goal.clear_all-requires
clear_all-requires g c = record {
  range = read_below (length c.args.lists.now.elements.items) (length c.mark_all.new.marks.items) c.args.lists.now.elements.items c.args.i
      c.index-3.result.now c.deref-5.result.now c.requires.comparable.elements c.requires.comparable.row c.index-3.ensures
      c.deref-5.ensures.value
      (c.mark_all.ensures.size ∙ c.requires.elements.0);
}

pub clear_all-requires-2 : goal.clear_all-requires-2
clear_all-requires-2 g c = record {
  range = read_below (length c.args.lists.now.elements.items) (length c.mark_all-2.new.marks.items) c.args.lists.now.variables.items
      c.args.i c.index-4.result.now c.deref-6.result.now c.requires.comparable.variables c.requires.comparable.row c.index-4.ensures
      c.deref-6.ensures.value (c.mark_all-2.ensures.size ∙ c.requires.rows.0);
}

pub mark_all-requires : goal.mark_all-requires
mark_all-requires g c = record {
  range = read_below (length c.args.lists.now.elements.items) (length c.args.elements.now.items) c.args.lists.now.elements.items c.args.i
      c.index.result.now c.deref.result.now c.requires.comparable.elements c.requires.comparable.row c.index.ensures c.deref.ensures.value
      c.requires.elements.0;
}

pub mark_all-requires-2 : goal.mark_all-requires-2
mark_all-requires-2 g c = record {
  range = read_below (length c.args.lists.now.elements.items) (length c.args.rows.now.items) c.args.lists.now.variables.items c.args.i
      c.index-2.result.now c.deref-2.result.now c.requires.comparable.variables c.requires.comparable.row c.index-2.ensures
      c.deref-2.ensures.value
      c.requires.rows.0;
}

pub index-requires-3 : goal.index-requires-3
index-requires-3 g c = lt_of_lt_of_le c.requires.comparable.row (le_of_eq (sym c.args.lists.now.elements.ok.0))

pub index-requires-4 : goal.index-requires-4
index-requires-4 g c = lt_of_lt_of_le c.requires.comparable.row
    (le_of_eq (sym (c.args.lists.now.variables.ok.0 ∙ c.requires.comparable.variables.0)))

pub returns-clause-elements : goal.returns-clause-elements
returns-clause-elements g c = (
  c.clear_all.ensures.size ∙ c.mark_all.ensures.size ∙ c.requires.elements.0,
  λ j. cleared_own j (mark_at c.args.elements.now.items j) (mark_at c.mark_all.new.marks.items j) (mark_at c.clear_all.new.marks.items j)
      c.deref.result.now c.deref-5.result.now (c.requires.elements.1 j) (c.mark_all.ensures.marked j) (c.clear_all.ensures.cleared j)
      (list_deref c.args.lists.now.elements.items c.args.i c.index.result.now _ c.requires.comparable.row c.index.ensures
      c.deref.ensures.value
      ∙ sym (list_deref c.args.lists.now.elements.items c.args.i c.index-3.result.now _ c.requires.comparable.row c.index-3.ensures
      c.deref-5.ensures.value)),
)

pub returns-clause-found : goal.returns-clause-found
returns-clause-found g c = c.first_alike-found.ensures

pub returns-then-is_empty-clause-elements : goal.returns-then-is_empty-clause-elements
returns-then-is_empty-clause-elements g c = c.requires.elements

pub returns-then-is_empty-clause-rows : goal.returns-then-is_empty-clause-rows
returns-then-is_empty-clause-rows g c = c.requires.rows

pub index-requires : goal.index-requires
index-requires g c = lt_of_lt_of_le c.requires.comparable.row (le_of_eq (sym c.args.lists.now.elements.ok.0))

pub index-requires-2 : goal.index-requires-2
index-requires-2 g c = lt_of_lt_of_le (c.requires.comparable.row)
    (le_of_eq (sym (c.args.lists.now.variables.ok.0 ∙ c.requires.comparable.variables.0)))

pub returns-clause-rows : goal.returns-clause-rows
returns-clause-rows g c =
    let vs = c.args.lists.now.variables.items in
    let row = lt_of_lt_of_le c.requires.comparable.row (le_of_eq (sym c.requires.comparable.variables.0)) in (
      c.clear_all-2.ensures.size ∙ c.mark_all-2.ensures.size ∙ c.requires.rows.0,
      λ j. cleared_own j (mark_at c.args.rows.now.items j) (mark_at c.mark_all-2.new.marks.items j)
          (mark_at c.clear_all-2.new.marks.items j) c.deref-2.result.now c.deref-6.result.now (c.requires.rows.1 j)
          (c.mark_all-2.ensures.marked j) (c.clear_all-2.ensures.cleared j)
          (list_deref vs c.args.i c.index-2.result.now c.deref-2.result.now row c.index-2.ensures c.deref-2.ensures.value
          ∙ sym (list_deref vs c.args.i c.index-4.result.now c.deref-6.result.now row c.index-4.ensures c.deref-6.ensures.value)),
    )
