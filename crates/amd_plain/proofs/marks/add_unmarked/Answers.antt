-- the goals of marks::add_unmarked.
use Rattle.std.proofs.Common.{ℕ, List, Bool, true, false, [], ◌∷◌, ◌++◌, fold, ◌≡◌, ◌<◌, ◌+◌, ◌∙◌, ◌||◌, sym, ap, length, set}
use Rattle.std.proofs.Common.{length-set, get_or, drop, lt_of_lt_of_le, le_of_eq}
use Rattle.std.proofs.lemmas.List.{at_drop_more, at_drop_all, get_or_read}
use Rattle.amd_model.specs.Quotient.{has, add_new}
use Rattle.amd_plain.specs.Views.{mark_at}
use Rattle.amd_plain.proofs.MarkLists.{marks_next, marks_end, marks_old, marked_passed, unmarked_added, known_added}
use Rattle.std.proofs.lemmas.Result.{IfOk-from_err}
use Rattle.std.proofs.Common.{refl}
use borrow.Author.Count.{falls}
use Rattle.amd_plain.proofs.marks.add_unmarked.Goals as goal
use Rattle.amd_plain.proofs.marks.add_unmarked.Goals.{then-not-index+in_ok-push, else-not-index}

pub loop-j-preserved : goal.loop-j-preserved
loop-j-preserved g c =
    let i : ℕ = c.loop-j.j-index in
    let list : List ℕ = c.args.list.now in
    let row : ℕ = get_or list i 0 in
    let rest : List ℕ = drop (i + 1) list in
    let marks : List Bool = c.loop-j.marks.items in
    let out : List ℕ = c.loop-j.out.items in
    let here : i < length list = c.loop-j-test.true in
    let was = c.loop-j.invariant in
    let size = was.size in
    let small : row < length marks = lt_of_lt_of_le (c.requires.range i 0 here) (le_of_eq (sym size)) in
    let read = get_or_read marks row _ small c.index.ensures false in
    let list_now = sym (at_drop_more (λ xs. fold (add_new (mark_at marks)) out xs) list i 0 here) ∙ was.list in
    let marked_now = λ (j : ℕ). sym (at_drop_more (λ xs. mark_at marks j || has xs j) list i 0 here) ∙ was.marked j in
    elim c.if-not-index.branch [
      | then-not-index+in_ok-push w ↦ (
          let fresh : mark_at marks row ≡ false = sym read ∙ w.if-not-index.true in
          let items : c.if-not-index.out.items ≡ out ++ row ∷ [] = ap (λ v. v.items) w.out-is ∙ w.in_ok-push.ensures.items in
          let set_now : c.if-not-index.marks.items ≡ set marks row true = ap (λ v. v.items) w.marks-is in
          rw (set_now, items) record {
            size = length-set marks row true ∙ size;
            known = known_added marks out row small was.known;
            list = sym (unmarked_added marks out rest row small was.known fresh) ∙ list_now;
            marked = λ j. marks_next marks row j rest small ∙ marked_now j;
          })
      | else-not-index w ↦ (
          let old : mark_at marks row ≡ true = sym read ∙ w.if-not-index.false in
          rw (w.marks-is, w.out-is) record {
            size = size;
            known = was.known;
            list = sym (marked_passed marks out rest row old) ∙ list_now;
            marked = λ j. marks_old marks row j rest old ∙ marked_now j;
          })
    ]

pub returns-clause-marked : goal.returns-clause-marked
returns-clause-marked g c j =
    sym (at_drop_all (λ xs. mark_at c.loop-j.marks.items j || has xs j) c.args.list.now c.loop-j.j-index c.loop-j-test.false ∙
    marks_end c.loop-j.marks.items j) ∙ c.loop-j.invariant.marked j

pub returns-in_err-push-clause-size : goal.returns-in_err-push-clause-size
returns-in_err-push-clause-size g c =
    length-set c.loop-j.marks.items (get_or c.args.list.now c.loop-j.j-index 0) true ∙ c.loop-j.invariant.size

pub returns-clause-list : goal.returns-clause-list
returns-clause-list g c =
    sym (at_drop_all (λ xs. fold (add_new (mark_at c.loop-j.marks.items)) c.loop-j.out.items xs) c.args.list.now
    c.loop-j.j-index c.loop-j-test.false) ∙ c.loop-j.invariant.list

pub bounds-list-j-index : goal.bounds-list-j-index
bounds-list-j-index g c = c.loop-j-test.true

pub loop-j-smaller : goal.loop-j-smaller
loop-j-smaller g c = falls (length c.args.list.now) c.loop-j.j-index c.loop-j-test.true

pub loop-j-init : goal.loop-j-init
loop-j-init g c = record { size = refl; known = c.requires.known; list = refl; marked = λ j. refl }

pub index-requires : goal.index-requires
index-requires g c = lt_of_lt_of_le (c.requires.range c.loop-j.j-index 0 c.loop-j-test.true)
    (le_of_eq (sym (c.loop-j.marks.ok.0 ∙ c.loop-j.invariant.size)))

pub index_mut-requires : goal.index_mut-requires
index_mut-requires g c = lt_of_lt_of_le (c.requires.range c.loop-j.j-index 0 c.loop-j-test.true)
    (le_of_eq (sym (c.loop-j.marks.ok.0 ∙ c.loop-j.invariant.size)))

pub returns-in_err-push-clause-list : goal.returns-in_err-push-clause-list
returns-in_err-push-clause-list g c = IfOk-from_err c.from_residual.result _ c.from_residual.ensures.0

pub returns-in_err-push-clause-marked : goal.returns-in_err-push-clause-marked
returns-in_err-push-clause-marked g c = IfOk-from_err c.from_residual.result _ c.from_residual.ensures.0

pub returns-clause-size : goal.returns-clause-size
returns-clause-size g c = c.loop-j.invariant.size
