-- the goals of marks::mark_all.
use Rattle.std.proofs.Common.{ℕ, List, true, ◌<◌, ◌+◌, ◌∙◌, sym, length, length-set, get_or, drop, ◌||◌, lt_of_lt_of_le, le_of_eq}
use Rattle.std.proofs.lemmas.List.{at_drop_more, at_drop_all}
use Rattle.amd_model.specs.Quotient.{has}
use Rattle.amd_plain.specs.Views.{mark_at}
use Rattle.amd_plain.proofs.MarkLists.{marks_next, marks_end}
use Rattle.std.proofs.Common.{refl}
use borrow.Author.Count.{falls}
use Rattle.amd_plain.proofs.marks.mark_all.Goals as goal

pub loop-j-preserved : goal.loop-j-preserved
loop-j-preserved g c =
    let i : ℕ = c.loop-j.j-index in let list : List ℕ = c.args.list.now in let marks = c.loop-j.marks.items in
    let here : i < length list = c.loop-j-test.true in let size = c.loop-j.invariant.size in
    let small : get_or list i 0 < length marks = lt_of_lt_of_le (c.requires.range i 0 here) (le_of_eq (sym size)) in record {
      size = length-set marks (get_or list i 0) true ∙ size;
      marked = λ j. marks_next marks (get_or list i 0) j (drop (i + 1) list) small ∙
          sym (at_drop_more (λ xs. mark_at c.loop-j.marks.items j || has xs j) list i 0 here) ∙ c.loop-j.invariant.marked j;
    }

pub returns-clause-marked : goal.returns-clause-marked
returns-clause-marked g c j =
    sym (at_drop_all (λ xs. mark_at c.loop-j.marks.items j || has xs j) c.args.list.now c.loop-j.j-index c.loop-j-test.false ∙
    marks_end c.loop-j.marks.items j) ∙ c.loop-j.invariant.marked j

pub bounds-list-j-index : goal.bounds-list-j-index
bounds-list-j-index g c = c.loop-j-test.true

pub loop-j-smaller : goal.loop-j-smaller
loop-j-smaller g c = falls (length c.args.list.now) c.loop-j.j-index c.loop-j-test.true

pub loop-j-init : goal.loop-j-init
loop-j-init g c = record { size = refl; marked = λ j. refl }

pub index_mut-requires : goal.index_mut-requires
index_mut-requires g c = lt_of_lt_of_le (c.requires.range c.loop-j.j-index 0 c.loop-j-test.true)
    (le_of_eq (sym (c.loop-j.marks.ok.0 ∙ c.loop-j.invariant.size)))

pub returns-clause-size : goal.returns-clause-size
returns-clause-size g c = c.loop-j.invariant.size
