-- the goals of bounds::renew_lists.
use Rattle.std.proofs.Common.{◌≡◌, ◌<◌, ◌∷◌, ℕ, length, get_or, set, arith, ap, sym, refl, subst, ◌∙◌}
use Rattle.amd_model.specs.Quotient.{turned}
use Rattle.amd_plain.specs.Views.{list_at, Below}
use Rattle.amd_round_laws.proofs.Lists.Named.{below_turned}
use Rattle.amd_plain.proofs.Kept.{changed_more, changed_none, unchanged}
use Rattle.amd_plain.proofs.ListPlaces.{list_read, list_set_same, list_set_other, lists_set, list_below}
use Rattle.std.proofs.lemmas.List.Elements.{All-cons}
use Rattle.amd_plain.proofs.Kept.{changed_all}
use Rattle.std.proofs.Common.{lt_of_lt_of_le, le_of_eq}
use borrow.Author.Count.{falls}
use Rattle.std.proofs.lemmas.Result.{IfOk-from_err}
use Rattle.amd_plain.proofs.bounds.renew_lists.Goals as goal

pub loop-i-init : goal.loop-i-init
loop-i-init g c = record {
  new_elements = changed_none c.args.made.now (λ i. c.args.pivot ∷ turned (list_at c.args.lists.now.elements.items i))
      (list_at c.args.lists.now.elements.items);
  new_variables = changed_none c.args.made.now (λ i. turned (list_at c.args.lists.now.variables.items i))
      (list_at c.args.lists.now.variables.items);
  members = refl;
  elements = c.requires.elements;
  variables = c.requires.variables;
}

pub loop-i-preserved : goal.loop-i-preserved
loop-i-preserved g c =
    let made = c.args.made.now in
    let k = c.loop-i.i-index in
    let test = c.loop-i-test.true in
    let i : ℕ = get_or made k 0 in
    let n : ℕ = length c.args.lists.now.elements.items in
    let inv = c.loop-i.invariant in
    let es = c.loop-i.lists.elements.items in
    let vs = c.loop-i.lists.variables.items in
    let old_es = list_at c.args.lists.now.elements.items in
    let old_vs = list_at c.args.lists.now.variables.items in
    let small : i < n = c.requires.range k 0 test in
    let e_size = inv.elements.0 in
    let v_size = inv.variables.0 in
    let e_in : i < length es = omega (arith, small, e_size) in
    let v_in : i < length vs = omega (arith, small, v_size) in
    let t = c.turn.new.list in
    let u = c.turn-in-loop-i.new.list in
    let p = c.insert.new.self in
    let et : list_at es i ≡ c.index_mut.result.now.items = list_read es i c.index_mut.result.now e_in c.index_mut.ensures.value in
    let turned_e : t.items ≡ turned (list_at es i) = c.turn.ensures ∙ ap turned (sym et) in
    let e_in' : i < length (set es i t) = omega (arith, e_in, Rattle.std.proofs.lemmas.List.length-set es i t) in
    let again : c.index_mut-in-loop-i.result.now.items ≡ t.items =
    sym (list_read (set es i t) i c.index_mut-in-loop-i.result.now e_in' c.index_mut-in-loop-i.ensures.value) ∙
    list_set_same es i t e_in in
    let put : p.items ≡ c.args.pivot ∷ turned (list_at es i) = c.in_ok-insert.ensures.items ∙
    ap (λ xs. c.args.pivot ∷ xs) (again ∙ turned_e) in
    let vt : list_at vs i ≡ c.index_mut-in-loop-i-2.result.now.items =
    list_read vs i c.index_mut-in-loop-i-2.result.now v_in c.index_mut-in-loop-i-2.ensures.value in
    let turned_v : u.items ≡ turned (list_at vs i) = c.turn-in-loop-i.ensures ∙ ap turned (sym vt) in
    let e_stays = unchanged made k 0 test (λ x. c.args.pivot ∷ turned (old_es x)) old_es (list_at es) inv.new_elements c.requires.once in
    let v_stays = unchanged made k 0 test (λ x. turned (old_vs x)) old_vs (list_at vs) inv.new_variables c.requires.once in
    let e_below : Below n (turned (list_at es i)) = below_turned n (list_at es i) (list_below n es inv.elements i) in
    let v_below : Below n (turned (list_at vs i)) = below_turned n (list_at vs i) (list_below n vs inv.variables i) in
    record {
      new_elements = changed_more made k 0 test (λ x. c.args.pivot ∷ turned (old_es x)) old_es (list_at es) inv.new_elements _
          (λ x ne. list_set_other (set es i t) i p x ne ∙ list_set_other es i t x ne)
          (list_set_same (set es i t) i p e_in' ∙ put ∙ ap (λ xs. c.args.pivot ∷ turned xs) e_stays);
      new_variables = changed_more made k 0 test (λ x. turned (old_vs x)) old_vs (list_at vs) inv.new_variables _
          (λ x ne. list_set_other vs i u x ne)
          (list_set_same vs i u v_in ∙ turned_v ∙ ap turned v_stays);
      members = inv.members;
      elements = lists_set n (set es i t) i p (lists_set n es i t inv.elements (subst (Below n) (sym turned_e) e_below))
          (subst (Below n) (sym put) (All-cons (λ j. j < n) c.args.pivot (turned (list_at es i)) c.requires.pivot e_below));
      variables = lists_set n vs i u inv.variables (subst (Below n) (sym turned_v) v_below);
    }

pub returns-clause-new_elements : goal.returns-clause-new_elements
returns-clause-new_elements g c = changed_all c.args.made.now c.loop-i.i-index c.loop-i-test.false
    (λ i. c.args.pivot ∷ turned (list_at c.args.lists.now.elements.items i)) (list_at c.args.lists.now.elements.items)
    (list_at c.loop-i.lists.elements.items) c.loop-i.invariant.new_elements

pub returns-clause-new_variables : goal.returns-clause-new_variables
returns-clause-new_variables g c = changed_all c.args.made.now c.loop-i.i-index c.loop-i-test.false
    (λ i. turned (list_at c.args.lists.now.variables.items i)) (list_at c.args.lists.now.variables.items)
    (list_at c.loop-i.lists.variables.items) c.loop-i.invariant.new_variables

pub returns-clause-variables : goal.returns-clause-variables
returns-clause-variables g c = c.loop-i.invariant.variables

pub returns-clause-elements : goal.returns-clause-elements
returns-clause-elements g c = c.loop-i.invariant.elements

pub bounds-made-i-index : goal.bounds-made-i-index
bounds-made-i-index g c = c.loop-i-test.true

pub index_mut-requires : goal.index_mut-requires
index_mut-requires g c = lt_of_lt_of_le (c.requires.range c.loop-i.i-index 0 c.loop-i-test.true)
    (le_of_eq (sym (c.loop-i.lists.elements.ok.0 ∙ c.loop-i.invariant.elements.0)))

pub index_mut-requires-in-loop-i-2 : goal.index_mut-requires-in-loop-i-2
index_mut-requires-in-loop-i-2 g c = lt_of_lt_of_le (c.requires.range c.loop-i.i-index 0 c.loop-i-test.true)
    (le_of_eq (sym (c.loop-i.lists.variables.ok.0 ∙ c.loop-i.invariant.variables.0)))

pub returns-in_err-insert-clause-new_elements : goal.returns-in_err-insert-clause-new_elements
returns-in_err-insert-clause-new_elements g c = IfOk-from_err c.from_residual.result _ c.from_residual.ensures.0

pub returns-in_err-insert-clause-new_variables : goal.returns-in_err-insert-clause-new_variables
returns-in_err-insert-clause-new_variables g c = IfOk-from_err c.from_residual.result _ c.from_residual.ensures.0

pub returns-in_err-insert-clause-members : goal.returns-in_err-insert-clause-members
returns-in_err-insert-clause-members g c = IfOk-from_err c.from_residual.result _ c.from_residual.ensures.0

pub returns-in_err-insert-clause-elements : goal.returns-in_err-insert-clause-elements
returns-in_err-insert-clause-elements g c = IfOk-from_err c.from_residual.result _ c.from_residual.ensures.0

pub returns-in_err-insert-clause-variables : goal.returns-in_err-insert-clause-variables
returns-in_err-insert-clause-variables g c = IfOk-from_err c.from_residual.result _ c.from_residual.ensures.0

pub loop-i-smaller : goal.loop-i-smaller
loop-i-smaller g c = falls (length c.args.made.now) c.loop-i.i-index c.loop-i-test.true

pub returns-clause-members : goal.returns-clause-members
returns-clause-members g c = c.loop-i.invariant.members
