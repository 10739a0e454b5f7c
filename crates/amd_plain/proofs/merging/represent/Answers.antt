-- the goals of merging::represent.
use Rattle.std.proofs.Common.{◌≡◌, ◌<◌, ◌++◌, ◌∷◌, [], inl, inr, ℕ, length, set, sym, ap, subst, ◌∙◌}
use Rattle.std.specs.Prelude.{◌==◌}
use Rattle.std.proofs.lemmas.Bool.{cases_eq, eq-eqb, ne_eqb, cond-true, cond-false}
use Rattle.std.proofs.lemmas.List.{length-set, get_or-set_same}
use Rattle.amd_model.specs.Quotient.{has}
use Rattle.amd_plain.specs.Views.{list_at, Below}
use Rattle.amd_plain.specs.Groups.{group_in}
use Rattle.amd_plain.proofs.ListPlaces.{list_deref, list_set_same, list_set_other, list_read, list_below, lists_set}
use Rattle.std.proofs.lemmas.List.Elements.{All-push}
use Rattle.std.proofs.Common.{true, get_or-set_other, lt_of_lt_of_le, le_of_eq, refl}
use Rattle.amd_plain.specs.Views.{num}
use Rattle.amd_plain.specs.Rounds.{plain_alike}
use Rattle.amd_plain.proofs.ReadLists.{read_below}
use Rattle.std.proofs.lemmas.Result.{IfOk-from_err}
use Rattle.amd_plain.proofs.merging.represent.Goals as goal

pub representative_in-found-requires-clause-comparable : goal.representative_in-found-requires-clause-comparable
representative_in-found-requires-clause-comparable g c =
    let groups = c.args.scratch.now.groups.items in
    let n : ℕ = length c.args.lists.now.elements.items in
    let room = c.requires.ready.groups.0 in
    let range = c.group_of-group.ensures.range in
    let read = list_deref groups c.group_of-group.result c.index.result.now _ (lt_of_lt_of_le range (le_of_eq (sym room))) c.index.ensures
    c.deref.ensures.value in
    record {
      row = c.requires.row;
      elements = c.requires.elements;
      variables = c.requires.variables;
      range = read_below n n groups c.group_of-group.result c.index.result.now c.deref.result.now c.requires.ready.groups range
          c.index.ensures c.deref.ensures.value refl;
      once = c.requires.once;
      group_once = λ r h. c.requires.group_once c.group_of-group.result r (ap (λ xs. has xs r) (sym read) ∙ h);
    }

pub returns-in_ok-push-in-None-clause-looked : goal.returns-in_ok-push-in-None-clause-looked
returns-in_ok-push-in-None-clause-looked g c =
    let groups = c.args.scratch.now.groups.items in
    let es = c.args.lists.now.elements.items in
    let vs = c.args.lists.now.variables.items in
    let i = c.args.i in
    let at_group = c.group_of-group.result in
    let room = c.requires.ready.groups.0 in
    let range = c.group_of-group.ensures.range in
    let within : at_group < length groups = lt_of_lt_of_le range (le_of_eq (sym room)) in
    let is = c.group_of-group.ensures.group in
    let read = list_deref groups at_group c.index.result.now _ within c.index.ensures c.deref.ensures.value in
    let pushed : c.push.new.self.items ≡ list_at groups at_group ++ i ∷ [] = c.in_ok-push-in-None.ensures.items ∙
    ap (λ xs. xs ++ i ∷ []) (sym (list_read groups at_group c.index_mut-in-None.result.now within c.index_mut-in-None.ensures.value)) in
    let size = c.requires.ready.into in
    let row = c.requires.row in
    inr (
      (λ x h. c.in-None.ensures.found x (ap (λ xs. has xs x) (read ∙ ap (list_at groups) is) ∙ h)),
      get_or-set_same c.args.scratch.now.into.items i i 0 (lt_of_lt_of_le row (le_of_eq (sym size))),
      (λ b. elim (cases_eq b at_group) [
        | inl e ↦ ap (list_at (set groups at_group c.push.new.self)) e ∙ list_set_same groups at_group c.push.new.self within ∙ pushed ∙
            ap (λ m. list_at groups m ++ i ∷ []) (sym e)
            ∙ sym (cond-true (b == group_in es vs i) (list_at groups b ++ i ∷ []) (list_at groups b) (eq-eqb b (group_in es vs i) (e ∙ is)))
        | inr ne ↦ list_set_other groups at_group c.push.new.self b ne
            ∙ sym (cond-false (b == group_in es vs i) (list_at groups b ++ i ∷ []) (list_at groups b)
            (ne_eqb b (group_in es vs i) (λ q. ne (q ∙ sym is))))
      ]),
    )

pub returns-in_ok-push-in-None-clause-ready : goal.returns-in_ok-push-in-None-clause-ready
returns-in_ok-push-in-None-clause-ready g c =
    let groups = c.args.scratch.now.groups.items in
    let n : ℕ = length c.args.lists.now.elements.items in
    let i = c.args.i in
    let at_group = c.group_of-group.result in
    let room = c.requires.ready.groups.0 in
    let range = c.group_of-group.ensures.range in
    let within : at_group < length groups = lt_of_lt_of_le range (le_of_eq (sym room)) in
    let pushed : c.push.new.self.items ≡ list_at groups at_group ++ i ∷ [] = c.in_ok-push-in-None.ensures.items ∙
    ap (λ xs. xs ++ i ∷ []) (sym (list_read groups at_group c.index_mut-in-None.result.now within c.index_mut-in-None.ensures.value)) in
    record {
      rows = c.in-None.ensures.rows;
      elements = c.in-None.ensures.elements;
      groups = lists_set n groups at_group c.push.new.self c.requires.ready.groups
          (subst (Below n) (sym pushed)
          (All-push (λ j. j < n) (list_at groups at_group) i (list_below n groups c.requires.ready.groups at_group) c.requires.row));
      beyond = c.requires.ready.beyond;
      into = length-set c.args.scratch.now.into.items i i ∙ c.requires.ready.into;
    }

pub returns-in-Some-clause-looked : goal.returns-in-Some-clause-looked
returns-in-Some-clause-looked g c =
    let groups = c.args.scratch.now.groups.items in let es = c.args.lists.now.elements.items in
    let vs = c.args.lists.now.variables.items in let i : ℕ = c.args.i in let r : ℕ = c.in-Some.r in
    let at_group : ℕ = c.group_of-group.result in
    let within : at_group < length groups = lt_of_lt_of_le c.group_of-group.ensures.range (le_of_eq (sym c.requires.ready.groups.0)) in
    let read = list_deref groups at_group c.index.result.now _ within c.index.ensures c.deref.ensures.value
    ∙ ap (list_at groups) c.group_of-group.ensures.group in
    let same : num (set c.args.scratch.now.into.items i r) i ≡ r = get_or-set_same c.args.scratch.now.into.items i r 0
    (lt_of_lt_of_le c.requires.row (le_of_eq (sym c.requires.ready.into))) in
    inl (
      subst (λ m. has (list_at groups (group_in es vs i)) m ≡ true) (sym same)
          (ap (λ xs. has xs r) (sym read) ∙ c.in-Some.ensures.found.0),
      subst (λ m. plain_alike es vs i m ≡ true) (sym same) c.in-Some.ensures.found.1,
      λ b. refl,
    )

pub returns-in_ok-push-in-None-clause-others : goal.returns-in_ok-push-in-None-clause-others
returns-in_ok-push-in-None-clause-others g c x ne = get_or-set_other c.args.scratch.now.into.items c.args.i x c.args.i 0 ne

pub returns-in-Some-clause-others : goal.returns-in-Some-clause-others
returns-in-Some-clause-others g c x ne = get_or-set_other c.args.scratch.now.into.items c.args.i x c.in-Some.r 0 ne

pub returns-in-Some-clause-ready : goal.returns-in-Some-clause-ready
returns-in-Some-clause-ready g c = record {
  rows = c.in-Some.ensures.rows;
  elements = c.in-Some.ensures.elements;
  groups = c.requires.ready.groups;
  beyond = c.requires.ready.beyond;
  into = length-set c.args.scratch.now.into.items c.args.i c.in-Some.r ∙ c.requires.ready.into;
}

pub group_of-group-requires : goal.group_of-group-requires
group_of-group-requires g c = record {
  row = (c.requires.row, lt_of_lt_of_le c.requires.row (le_of_eq (sym c.requires.variables.0)));
}

pub index-requires : goal.index-requires
index-requires g c = lt_of_lt_of_le (c.group_of-group.ensures.range)
    (le_of_eq (sym (c.args.scratch.now.groups.ok.0 ∙ c.requires.ready.groups.0)))

pub representative_in-found-requires-clause-elements : goal.representative_in-found-requires-clause-elements
representative_in-found-requires-clause-elements g c = c.requires.ready.elements

pub representative_in-found-requires-clause-rows : goal.representative_in-found-requires-clause-rows
representative_in-found-requires-clause-rows g c = c.requires.ready.rows

pub index_mut-requires : goal.index_mut-requires
index_mut-requires g c = lt_of_lt_of_le (c.requires.row)
    (le_of_eq (sym (c.args.scratch.now.into.ok.0 ∙ c.requires.ready.into)))

pub index_mut-requires-in-None : goal.index_mut-requires-in-None
index_mut-requires-in-None g c = lt_of_lt_of_le (c.group_of-group.ensures.range)
    (le_of_eq (sym (c.args.scratch.now.groups.ok.0 ∙ c.requires.ready.groups.0)))

pub returns-in-Some-clause-beyond : goal.returns-in-Some-clause-beyond
returns-in-Some-clause-beyond g c = refl

pub returns-in_ok-push-in-None-clause-beyond : goal.returns-in_ok-push-in-None-clause-beyond
returns-in_ok-push-in-None-clause-beyond g c = refl

pub returns-in_err-push-in-None-clause-looked : goal.returns-in_err-push-in-None-clause-looked
returns-in_err-push-in-None-clause-looked g c = IfOk-from_err c.from_residual.result _ c.from_residual.ensures.0

pub returns-in_err-push-in-None-clause-others : goal.returns-in_err-push-in-None-clause-others
returns-in_err-push-in-None-clause-others g c = IfOk-from_err c.from_residual.result _ c.from_residual.ensures.0

pub returns-in_err-push-in-None-clause-ready : goal.returns-in_err-push-in-None-clause-ready
returns-in_err-push-in-None-clause-ready g c = IfOk-from_err c.from_residual.result _ c.from_residual.ensures.0

pub returns-in_err-push-in-None-clause-beyond : goal.returns-in_err-push-in-None-clause-beyond
returns-in_err-push-in-None-clause-beyond g c = IfOk-from_err c.from_residual.result _ c.from_residual.ensures.0
