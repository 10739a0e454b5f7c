-- the goals of marks::add_classes.
use Rattle.std.proofs.Common.{ℕ, List, Bool, true, false, [], ◌∷◌, ◌++◌, fold, ◌≡◌, ◌<◌, ◌+◌, ◌∙◌, ◌||◌, sym, ap, length, set}
use Rattle.std.proofs.Common.{length-set, get_or, drop}
use Rattle.std.specs.Prelude.{nat_lt}
use Rattle.std.proofs.lemmas.Bool.{lt-ltb, le-ltb}
use Rattle.std.proofs.lemmas.List.{at_drop_more, at_drop_all, get_or_read}
use Rattle.amd_model.specs.Quotient.{has, add_new}
use Rattle.amd_model.proofs.Quotient.Lists.{filter_yes, filter_no}
use Rattle.amd_plain.specs.Views.{mark_at, num, plain_live}
use Rattle.amd_plain.proofs.MarkLists.{marks_next, marks_end, marks_old, marked_passed, unmarked_added, known_added}
use Rattle.std.proofs.Common.{lt_of_lt_of_le, le_of_eq}
use Rattle.std.proofs.Common.{refl}
use borrow.Author.Count.{falls}
use Rattle.std.proofs.lemmas.Result.{IfOk-from_err}
use Rattle.amd_plain.proofs.marks.add_classes.Goals as goal
use Rattle.amd_plain.proofs.marks.add_classes.Goals.{then-size-j-gt0+then-not-index+in_ok-push, else-size-j-gt0}
use Rattle.amd_plain.proofs.marks.add_classes.Goals.{else-size-j-gt0-via-then-size-j-gt0+else-not-index}
use Rattle.amd_plain.proofs.marks.add_classes.Goals.{else-size-j-gt0-via-else-size-j-gt0}

pub loop-j-preserved : goal.loop-j-preserved
loop-j-preserved g c =
    let i : ℕ = c.loop-j.j-index in
    let list : List ℕ = c.args.list.now in
    let sizes : List ℕ = c.args.size.now in
    let row : ℕ = get_or list i 0 in
    let rest : List ℕ = drop (i + 1) list in
    let classes : List ℕ = plain_live sizes rest in
    let is_class = λ (j : ℕ). nat_lt 0 (num sizes j) in
    let marks : List Bool = c.loop-j.marks.items in
    let out : List ℕ = c.loop-j.out.items in
    let here : i < length list = c.loop-j-test.true in
    let was = c.loop-j.invariant in
    let size = was.size in
    let small : row < length marks = lt_of_lt_of_le (c.requires.range i 0 here) (le_of_eq (sym size)) in
    let list_now = sym (at_drop_more (λ xs. fold (add_new (mark_at marks)) out (plain_live sizes xs)) list i 0 here) ∙ was.list in
    let marked_now = λ (j : ℕ). sym (at_drop_more (λ xs. mark_at marks j || has (plain_live sizes xs) j) list i 0 here) ∙ was.marked j in
    elim c.if-size-j-gt0.branch [
      | then-size-j-gt0+then-not-index+in_ok-push w ↦ (
          let fresh : mark_at marks row ≡ false = sym (get_or_read marks row _ small w.index.ensures false) ∙ w.if-not-index.true in
          let class : plain_live sizes (row ∷ rest) ≡ row ∷ classes =
          filter_yes is_class row rest (lt-ltb 0 (num sizes row) w.if-size-j-gt0.true) in
          let items : c.if-size-j-gt0.out.items ≡ out ++ row ∷ [] = ap (λ v. v.items) w.out-is ∙ w.in_ok-push.ensures.items in
          let set_now : c.if-size-j-gt0.marks.items ≡ set marks row true = ap (λ v. v.items) w.marks-is in
          rw (set_now, items) record {
            size = length-set marks row true ∙ size;
            known = known_added marks out row small was.known;
            list = sym (ap (fold (add_new (mark_at marks)) out) class ∙ unmarked_added marks out classes row small was.known fresh)
                ∙ list_now;
            marked = λ j. marks_next marks row j classes small ∙ sym (ap (λ xs. mark_at marks j || has xs j) class) ∙ marked_now j;
          })
      | else-size-j-gt0 w ↦ rw (w.marks-is, w.out-is) record {
        size = size;
        known = was.known;
        list = elim w.else-size-j-gt0.branch [
          | else-size-j-gt0-via-then-size-j-gt0+else-not-index w' ↦ (
              let old : mark_at marks row ≡ true = sym (get_or_read marks row _ small w'.index.ensures false) ∙ w'.if-not-index.false in
              let class : plain_live sizes (row ∷ rest) ≡ row ∷ classes =
              filter_yes is_class row rest (lt-ltb 0 (num sizes row) w'.if-size-j-gt0.true) in
              sym (ap (fold (add_new (mark_at marks)) out) class ∙ marked_passed marks out classes row old) ∙ list_now)
          | else-size-j-gt0-via-else-size-j-gt0 w' ↦ sym (ap (fold (add_new (mark_at marks)) out)
              (filter_no is_class row rest (le-ltb 0 (num sizes row) w'.if-size-j-gt0.false))) ∙ list_now
        ];
        marked = λ j. elim w.else-size-j-gt0.branch [
          | else-size-j-gt0-via-then-size-j-gt0+else-not-index w' ↦ (
              let old : mark_at marks row ≡ true = sym (get_or_read marks row _ small w'.index.ensures false) ∙ w'.if-not-index.false in
              let class : plain_live sizes (row ∷ rest) ≡ row ∷ classes =
              filter_yes is_class row rest (lt-ltb 0 (num sizes row) w'.if-size-j-gt0.true) in
              marks_old marks row j classes old ∙ sym (ap (λ xs. mark_at marks j || has xs j) class) ∙ marked_now j)
          | else-size-j-gt0-via-else-size-j-gt0 w' ↦ sym (ap (λ xs. mark_at marks j || has xs j)
              (filter_no is_class row rest (le-ltb 0 (num sizes row) w'.if-size-j-gt0.false))) ∙ marked_now j
        ];
      }
    ]

pub returns-clause-marked : goal.returns-clause-marked
returns-clause-marked g c j =
    sym (at_drop_all (λ xs. mark_at c.loop-j.marks.items j || has (plain_live c.args.size.now xs) j) c.args.list.now c.loop-j.j-index
    c.loop-j-test.false ∙ marks_end c.loop-j.marks.items j) ∙ c.loop-j.invariant.marked j

pub returns-in_err-push-clause-size : goal.returns-in_err-push-clause-size
returns-in_err-push-clause-size g c =
    length-set c.loop-j.marks.items (get_or c.args.list.now c.loop-j.j-index 0) true ∙ c.loop-j.invariant.size

pub returns-clause-list : goal.returns-clause-list
returns-clause-list g c =
    sym (at_drop_all (λ xs. fold (add_new (mark_at c.loop-j.marks.items)) c.loop-j.out.items (plain_live c.args.size.now xs))
    c.args.list.now
    c.loop-j.j-index c.loop-j-test.false) ∙ c.loop-j.invariant.list

pub loop-j-init : goal.loop-j-init
loop-j-init g c = record { size = refl; known = c.requires.known; list = refl; marked = λ j. refl }

pub bounds-list-j-index : goal.bounds-list-j-index
bounds-list-j-index g c = c.loop-j-test.true

pub bounds-size-j : goal.bounds-size-j
bounds-size-j g c = lt_of_lt_of_le (c.requires.range c.loop-j.j-index 0 c.loop-j-test.true)
    (le_of_eq (sym (c.requires.lengths)))

pub index-requires : goal.index-requires
index-requires g c = lt_of_lt_of_le (c.requires.range c.loop-j.j-index 0 c.loop-j-test.true)
    (le_of_eq (sym (c.loop-j.marks.ok.0 ∙ c.loop-j.invariant.size)))

pub index_mut-requires : goal.index_mut-requires
index_mut-requires g c = lt_of_lt_of_le (c.requires.range c.loop-j.j-index 0 c.loop-j-test.true)
    (le_of_eq (sym (c.loop-j.marks.ok.0 ∙ c.loop-j.invariant.size)))

pub loop-j-smaller : goal.loop-j-smaller
loop-j-smaller g c = falls (length c.args.list.now) c.loop-j.j-index c.loop-j-test.true

pub returns-in_err-push-clause-list : goal.returns-in_err-push-clause-list
returns-in_err-push-clause-list g c = IfOk-from_err c.from_residual.result _ c.from_residual.ensures.0

pub returns-in_err-push-clause-marked : goal.returns-in_err-push-clause-marked
returns-in_err-push-clause-marked g c = IfOk-from_err c.from_residual.result _ c.from_residual.ensures.0

pub returns-clause-size : goal.returns-clause-size
returns-clause-size g c = c.loop-j.invariant.size
