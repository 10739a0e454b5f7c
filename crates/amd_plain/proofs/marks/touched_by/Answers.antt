-- the goals of marks::touched_by.
use Rattle.std.proofs.Common.{ℕ, List, fold, flat_map, ◌≡◌, ◌<◌, ◌+◌, ◌∙◌, ◌||◌, sym, ap, length, get_or, drop}
use Rattle.std.proofs.lemmas.List.{at_drop_more}
use Rattle.amd_model.specs.Quotient.{has, add_new}
use Rattle.amd_plain.specs.Views.{mark_at, list_at}
use Rattle.amd_plain.proofs.ListPlaces.{list_read}
use Rattle.amd_plain.proofs.MarkLists.{marks_list, gathered_list, gathered_marks, gathered_next}
use Rattle.std.proofs.Common.{lt_of_lt_of_le, le_of_eq, refl}
use Rattle.std.proofs.lemmas.List.{at_drop_all}
use Rattle.std.proofs.Math.Bool.{or-true}
use Rattle.amd_plain.proofs.ReadLists.{read_below}
use Rattle.std.proofs.lemmas.Result.{IfOk-from_err}
use borrow.Author.Count.{falls}
use Rattle.amd_plain.proofs.marks.touched_by.Goals as goal

pub front-init : goal.front-init
front-init g c =
    let lists = c.args.elements.now.items in
    let pivot : ℕ = c.args.pivot in
    let own : List ℕ = list_at lists pivot in
    let row : pivot < length lists = lt_of_lt_of_le c.requires.pivot (le_of_eq (sym c.requires.elements.0)) in
    let those : own ≡ c.deref.result.now = list_read lists pivot c.index.result.now row c.index.ensures ∙ sym c.deref.ensures.value in
    let marks = c.args.marks.now.items in
    record {
      size = c.mark_all.ensures.size;
      list = ap (λ o. fold (add_new (has own)) o (flat_map (list_at lists) c.args.front.now)) c.new-out.ensures.items;
      marked = marks_list c.mark_all.new.marks.items own c.new-out.result.items marks c.requires.clear c.new-out.ensures.items
          (λ j. c.mark_all.ensures.marked j ∙ ap (λ xs. mark_at marks j || has xs j) (sym those));
    }

pub front-preserved : goal.front-preserved
front-preserved g c =
    let lists = c.args.elements.now.items in
    let pivot : ℕ = c.args.pivot in
    let skip = has (list_at lists pivot) in
    let front : List ℕ = c.args.front.now in
    let i : ℕ = c.front.i-index in
    let out : List ℕ = c.front.out.items in
    let grown : List ℕ = c.add_unmarked.new.out.items in
    let was = c.front.invariant in
    let here : i < length front = c.front-test.true in
    let e : ℕ = get_or front i 0 in
    let small : e < length lists = lt_of_lt_of_le (c.requires.range i 0 here) (le_of_eq (sym c.requires.elements.0)) in
    let list : list_at lists e ≡ c.deref-in-front.result.now =
    list_read lists e c.index-in-front.result.now small c.index-in-front.ensures ∙ sym c.deref-in-front.ensures.value in
    let grows : grown ≡ fold (add_new (mark_at c.front.marks.items)) out (list_at lists e) = c.in_ok-add_unmarked.ensures.list ∙
    ap (fold (add_new (mark_at c.front.marks.items)) out) (sym list) in
    record {
      size = c.in_ok-add_unmarked.ensures.size ∙ was.size;
      list = gathered_next skip (list_at lists) out grown (drop (i + 1) front) e
          (gathered_list skip c.front.marks.items out grown (list_at lists e) was.marked grows)
          ∙ sym (at_drop_more (λ es. fold (add_new skip) out (flat_map (list_at lists) es)) front i 0 here) ∙ was.list;
      marked = gathered_marks skip c.front.marks.items out grown (list_at lists e) was.marked grows c.add_unmarked.new.marks.items
          (λ j. c.in_ok-add_unmarked.ensures.marked j ∙ ap (λ xs. mark_at c.front.marks.items j || has xs j) (sym list));
    }

pub add_unmarked-requires-clause-range : goal.add_unmarked-requires-clause-range
add_unmarked-requires-clause-range g c =
    read_below (length c.args.marks.now.items) (length c.front.marks.items) c.args.elements.now.items
    (get_or c.args.front.now c.front.i-index 0) c.index-in-front.result.now c.deref-in-front.result.now c.requires.elements
    (c.requires.range c.front.i-index 0 c.front-test.true) c.index-in-front.ensures c.deref-in-front.ensures.value c.front.invariant.size

pub returns-clause-list : goal.returns-clause-list
returns-clause-list g c =
    let lists = c.args.elements.now.items in
    sym (at_drop_all (λ es. fold (add_new (has (list_at lists c.args.pivot))) c.front.out.items (flat_map (list_at lists) es))
    c.args.front.now c.front.i-index c.front-test.false) ∙ c.front.invariant.list

pub mark_all-requires : goal.mark_all-requires
mark_all-requires g c = let n : ℕ = length c.args.marks.now.items in record {
  range = read_below n n c.args.elements.now.items c.args.pivot c.index.result.now c.deref.result.now c.requires.elements
      c.requires.pivot c.index.ensures c.deref.ensures.value refl;
}

pub add_unmarked-requires-clause-known : goal.add_unmarked-requires-clause-known
add_unmarked-requires-clause-known g c j h = let own = has (list_at c.args.elements.now.items c.args.pivot) j in
    c.front.invariant.marked j ∙ ap (λ b. own || b) h ∙ or-true own

pub returns-in_err-add_unmarked-clause-size : goal.returns-in_err-add_unmarked-clause-size
returns-in_err-add_unmarked-clause-size g c = c.in_err-add_unmarked.ensures.size ∙ c.front.invariant.size

pub bounds-front-i-index : goal.bounds-front-i-index
bounds-front-i-index g c = c.front-test.true

pub front-smaller : goal.front-smaller
front-smaller g c = falls (length c.args.front.now) c.front.i-index c.front-test.true

pub index-requires : goal.index-requires
index-requires g c = lt_of_lt_of_le (c.requires.pivot)
    (le_of_eq (sym (c.args.elements.now.ok.0 ∙ c.requires.elements.0)))

pub index-requires-in-front : goal.index-requires-in-front
index-requires-in-front g c = lt_of_lt_of_le (c.requires.range c.front.i-index 0 c.front-test.true)
    (le_of_eq (sym (c.args.elements.now.ok.0 ∙ c.requires.elements.0)))

pub returns-in_err-add_unmarked-clause-list : goal.returns-in_err-add_unmarked-clause-list
returns-in_err-add_unmarked-clause-list g c = IfOk-from_err c.from_residual.result _ c.from_residual.ensures.0

pub returns-in_err-add_unmarked-clause-marked : goal.returns-in_err-add_unmarked-clause-marked
returns-in_err-add_unmarked-clause-marked g c = IfOk-from_err c.from_residual.result _ c.from_residual.ensures.0

pub returns-clause-size : goal.returns-clause-size
returns-clause-size g c = c.front.invariant.size

pub returns-clause-marked : goal.returns-clause-marked
returns-clause-marked g c = c.front.invariant.marked
