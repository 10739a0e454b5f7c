-- the goals of marks::front_of.
use Rattle.std.proofs.Common.{ℕ, List, Bool, true, [], fold, flat_map, ◌≡◌, ◌<◌, ◌≤◌, ◌+◌, ◌∙◌, ◌||◌, sym, ap, arith, length, length-set}
use Rattle.std.proofs.Common.{get_or, drop}
use Rattle.std.specs.Prelude.{◌==◌}
use Rattle.std.proofs.lemmas.List.{at_drop_more, at_drop_all}
use Rattle.std.proofs.lemmas.List.Sums.{fold-append}
use Rattle.amd_model.specs.Quotient.{has, add_new}
use Rattle.amd_plain.specs.Views.{mark_at, list_at, plain_live}
use Rattle.amd_plain.proofs.ListPlaces.{list_read, list_below}
use Rattle.amd_plain.proofs.MarkLists.{marks_one, gathered_list, gathered_marks, gathered_next}
use Rattle.std.proofs.Common.{lt_of_lt_of_le, le_of_eq, refl}
use Rattle.std.proofs.Math.Bool.{or-true}
use Rattle.amd_plain.proofs.ReadLists.{read_below}
use borrow.Author.Count.{falls}
use Rattle.std.proofs.lemmas.Result.{IfOk-from_err}
use Rattle.amd_plain.proofs.marks.front_of.Goals as goal

pub elements-init : goal.elements-init
elements-init g c =
    let marks : List Bool = c.args.marks.now.items in
    let pivot : ℕ = c.args.pivot in
    let lists = c.args.lists.now in
    let skip = λ (x : ℕ). x == pivot in
    let f = λ (e : ℕ). plain_live c.args.size.now (list_at lists.members.items e) in
    let empty = c.new-front.ensures.items in
    let small : pivot < length marks = omega (arith, c.requires.pivot, c.requires.size) in
    record {
      size = length-set marks pivot true;
      list = ap (λ o. fold (add_new skip) o (flat_map f (list_at lists.elements.items pivot))) empty;
      marked = λ j. marks_one marks pivot _ small c.requires.clear empty j;
    }

pub elements-preserved : goal.elements-preserved
elements-preserved g c =
    let lists = c.args.lists.now in
    let pivot : ℕ = c.args.pivot in
    let sizes : List ℕ = c.args.size.now in
    let skip = λ (x : ℕ). x == pivot in
    let f = λ (e : ℕ). plain_live sizes (list_at lists.members.items e) in
    let i : ℕ = c.elements.e-index in
    let out : List ℕ = c.elements.front.items in
    let grown : List ℕ = c.add_classes.new.out.items in
    let was = c.elements.invariant in
    let elements : List ℕ = list_at lists.elements.items pivot in
    let row : pivot < length lists.elements.items = lt_of_lt_of_le c.requires.pivot (le_of_eq (sym c.requires.elements.0)) in
    let those : elements ≡ c.deref-e-items.result.now = list_read lists.elements.items pivot c.index.result.now row c.index.ensures ∙
    sym c.deref-e-items.ensures.value in
    let here : i < length elements = (let t = c.elements-test.true in let l = ap length those in omega (arith, t, l)) in
    let e : ℕ = get_or elements i 0 in
    let same : get_or c.deref-e-items.result.now i 0 ≡ e = sym (ap (λ xs. get_or xs i 0) those) in
    let small : e < length lists.members.items =
    (let b = list_below (length sizes) lists.elements.items c.requires.elements pivot i 0 here in omega (arith, b, c.requires.members.0))
    in
    let e_now : ℕ = get_or c.deref-e-items.result.now i 0 in
    let small_now : e_now < length lists.members.items = omega (arith, small, same) in
    let list : list_at lists.members.items e ≡ c.deref.result.now
    = ap (list_at lists.members.items) (sym same) ∙ list_read lists.members.items e_now c.index-in-elements.result.now small_now
    c.index-in-elements.ensures ∙ sym c.deref.ensures.value in
    let grows : grown ≡ fold (add_new (mark_at c.elements.marks.items)) out (f e) = c.in_ok-add_classes.ensures.list ∙
    ap (λ xs. fold (add_new (mark_at c.elements.marks.items)) out (plain_live sizes xs)) (sym list) in
    record {
      size = c.in_ok-add_classes.ensures.size ∙ was.size;
      list = gathered_next skip f out grown (drop (i + 1) elements) e
          (gathered_list skip c.elements.marks.items out grown (f e) was.marked grows)
          ∙ sym (at_drop_more (λ es. fold (add_new skip) out (flat_map f es)) elements i 0 here) ∙ was.list;
      marked = gathered_marks skip c.elements.marks.items out grown (f e) was.marked grows c.add_classes.new.marks.items
          (λ j. c.in_ok-add_classes.ensures.marked j ∙ ap (λ xs. mark_at c.elements.marks.items j || has (plain_live sizes xs) j)
          (sym list));
    }

pub returns-clause-list : goal.returns-clause-list
returns-clause-list g c =
    let lists = c.args.lists.now in
    let pivot : ℕ = c.args.pivot in
    let sizes : List ℕ = c.args.size.now in
    let skip = λ (x : ℕ). x == pivot in
    let f = λ (e : ℕ). plain_live sizes (list_at lists.members.items e) in
    let i : ℕ = c.elements.e-index in
    let out : List ℕ = c.elements.front.items in
    let was = c.elements.invariant in
    let elements : List ℕ = list_at lists.elements.items pivot in
    let variables : List ℕ = list_at lists.variables.items pivot in
    let row : pivot < length lists.elements.items = lt_of_lt_of_le c.requires.pivot (le_of_eq (sym c.requires.elements.0)) in
    let those : elements ≡ c.deref-e-items.result.now = list_read lists.elements.items pivot c.index.result.now row c.index.ensures ∙
    sym c.deref-e-items.ensures.value in
    let row_too : pivot < length lists.variables.items = lt_of_lt_of_le c.requires.pivot (le_of_eq (sym c.requires.variables.0)) in
    let list : variables ≡ c.deref-2.result.now = list_read lists.variables.items pivot c.index-2.result.now row_too c.index-2.ensures ∙
    sym c.deref-2.ensures.value in
    let past : length elements ≤ i = (let t = c.elements-test.false in let l = ap length those in omega (arith, t, l)) in
    let found : out ≡ fold (add_new skip) [] (flat_map f elements) =
    sym (at_drop_all (λ es. fold (add_new skip) out (flat_map f es)) elements i past) ∙ was.list in
    let grows = c.in_ok-add_classes-2.ensures.list ∙ ap (λ xs. fold (add_new (mark_at c.elements.marks.items)) out (plain_live sizes xs))
    (sym list)
    in
    gathered_list skip c.elements.marks.items out c.add_classes-2.new.out.items (plain_live sizes variables) was.marked grows
    ∙ ap (λ o. fold (add_new skip) o (plain_live sizes variables)) found ∙
    sym (fold-append (add_new skip) [] (flat_map f elements) (plain_live sizes variables))

pub returns-clause-marked : goal.returns-clause-marked
returns-clause-marked g c =
    let was = c.elements.invariant in
    gathered_marks (λ x. x == c.args.pivot) c.elements.marks.items c.elements.front.items c.add_classes-2.new.out.items _ was.marked
    c.in_ok-add_classes-2.ensures.list c.add_classes-2.new.marks.items c.in_ok-add_classes-2.ensures.marked

pub add_classes-requires-clause-range : goal.add_classes-requires-clause-range
add_classes-requires-clause-range g c =
    let n : ℕ = length c.args.size.now in
    let e : get_or c.deref-e-items.result.now c.elements.e-index 0 < n =
    read_below n n c.args.lists.now.elements.items c.args.pivot c.index.result.now c.deref-e-items.result.now c.requires.elements
    c.requires.pivot c.index.ensures c.deref-e-items.ensures.value refl c.elements.e-index 0 c.elements-test.true in
    read_below n (length c.elements.marks.items) c.args.lists.now.members.items (get_or c.deref-e-items.result.now c.elements.e-index 0)
    c.index-in-elements.result.now c.deref.result.now c.requires.members e c.index-in-elements.ensures c.deref.ensures.value
    (c.elements.invariant.size ∙ c.requires.size)

pub add_classes-requires-2-clause-range : goal.add_classes-requires-2-clause-range
add_classes-requires-2-clause-range g c =
    read_below (length c.args.size.now) (length c.elements.marks.items) c.args.lists.now.variables.items c.args.pivot
    c.index-2.result.now c.deref-2.result.now c.requires.variables c.requires.pivot c.index-2.ensures c.deref-2.ensures.value
    (c.elements.invariant.size ∙ c.requires.size)

pub returns-clause-size : goal.returns-clause-size
returns-clause-size g c = c.in_ok-add_classes-2.ensures.size ∙ c.elements.invariant.size

pub returns-in_err-add_classes-2-clause-size : goal.returns-in_err-add_classes-2-clause-size
returns-in_err-add_classes-2-clause-size g c = c.in_err-add_classes-2.ensures.size ∙ c.elements.invariant.size

pub returns-in_err-add_classes-clause-size : goal.returns-in_err-add_classes-clause-size
returns-in_err-add_classes-clause-size g c = c.in_err-add_classes.ensures.size ∙ c.elements.invariant.size

pub add_classes-requires-clause-lengths : goal.add_classes-requires-clause-lengths
add_classes-requires-clause-lengths g c = sym (c.elements.invariant.size ∙ c.requires.size)

pub add_classes-requires-2-clause-lengths : goal.add_classes-requires-2-clause-lengths
add_classes-requires-2-clause-lengths g c = sym (c.elements.invariant.size ∙ c.requires.size)

pub add_classes-requires-clause-known : goal.add_classes-requires-clause-known
add_classes-requires-clause-known g c j h =
    c.elements.invariant.marked j ∙ ap (λ b. (j == c.args.pivot) || b) h ∙ or-true (j == c.args.pivot)

pub add_classes-requires-2-clause-known : goal.add_classes-requires-2-clause-known
add_classes-requires-2-clause-known g c j h =
    c.elements.invariant.marked j ∙ ap (λ b. (j == c.args.pivot) || b) h ∙ or-true (j == c.args.pivot)

pub index_mut-requires : goal.index_mut-requires
index_mut-requires g c = lt_of_lt_of_le (c.requires.pivot)
    (le_of_eq (sym (c.args.marks.now.ok.0 ∙ c.requires.size)))

pub index-requires : goal.index-requires
index-requires g c = lt_of_lt_of_le (c.requires.pivot)
    (le_of_eq (sym (c.args.lists.now.elements.ok.0 ∙ c.requires.elements.0)))

pub index-requires-2 : goal.index-requires-2
index-requires-2 g c = lt_of_lt_of_le (c.requires.pivot)
    (le_of_eq (sym (c.args.lists.now.variables.ok.0 ∙ c.requires.variables.0)))

pub returns-in_err-add_classes-clause-list : goal.returns-in_err-add_classes-clause-list
returns-in_err-add_classes-clause-list g c = IfOk-from_err c.from_residual.result _ c.from_residual.ensures.0

pub returns-in_err-add_classes-clause-marked : goal.returns-in_err-add_classes-clause-marked
returns-in_err-add_classes-clause-marked g c = IfOk-from_err c.from_residual.result _ c.from_residual.ensures.0

pub returns-in_err-add_classes-2-clause-list : goal.returns-in_err-add_classes-2-clause-list
returns-in_err-add_classes-2-clause-list g c =
    IfOk-from_err c.from_residual-in_err-add_classes-2.result _ c.from_residual-in_err-add_classes-2.ensures.0

pub returns-in_err-add_classes-2-clause-marked : goal.returns-in_err-add_classes-2-clause-marked
returns-in_err-add_classes-2-clause-marked g c =
    IfOk-from_err c.from_residual-in_err-add_classes-2.result _ c.from_residual-in_err-add_classes-2.ensures.0

pub elements-smaller : goal.elements-smaller
elements-smaller g c = falls (length c.deref-e-items.result.now) c.elements.e-index c.elements-test.true
