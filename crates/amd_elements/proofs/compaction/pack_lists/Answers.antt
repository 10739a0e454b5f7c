-- The proof of compaction::pack_lists.
use Rattle.std.proofs.Common.{◌≡◌, ◌≤◌, length, arith, le_of_eq, le_refl, le_trans, lt_of_lt_of_le, add-le-add}
use Rattle.std.proofs.Common.{sym, ◌∙◌, subst, set, unsigned_abs}
use borrow.Author.Count.{falls}
use Rattle.amd_words.specs.Words.{start, word}
use Rattle.amd_elements.specs.Compaction.{Moves}
use Rattle.amd_elements.proofs.MarkedLists.{start_below}
use Rattle.amd_elements.proofs.Moves.{swept_none, swept_skip}
use Rattle.amd_elements.proofs.Moves.{swept_move, swept_all, row_of, list_words, place_fits, not_empty}
use Rattle.amd_elements.proofs.MoveSigns.{owner_form}
use Rattle.amd_elements.proofs.compaction.pack_lists.Goals as goal

pub loop-src-init : goal.loop-src-init
loop-src-init g c = swept_none c.requires.layout c.mark_rows.ensures

pub loop-src-preserved-then-names_one : goal.loop-src-preserved-then-names_one
loop-src-preserved-then-names_one g c = swept_skip c.loop-src-test.true (sym c.names_one.ensures
    ∙ c.if-names_one.true) c.loop-src.invariant

pub flipped-j-requires-clause-marked : goal.flipped-j-requires-clause-marked
flipped-j-requires-clause-marked g c = owner_form _ (sym c.names_one.ensures
    ∙ c.if-names_one.false) (not_empty c.requires.layout c.loop-src-test.true (sym c.names_one.ensures
    ∙ c.if-names_one.false) c.loop-src.invariant)

pub cell_at-count-requires : goal.cell_at-count-requires
cell_at-count-requires g c = (row_of c.requires.layout c.loop-src-test.true (sym c.names_one.ensures
    ∙ c.if-names_one.false) c.loop-src.invariant c.flipped-j.result c.flipped-j.ensures).2

pub move_list-requires : goal.move_list-requires
move_list-requires g c =
    let r = c.requires in let i = c.loop-src.invariant in let j = c.flipped-j.result in let t = c.loop-src-test.true in
    let mark = sym c.names_one.ensures ∙ c.if-names_one.false in
    let a = row_of r.layout t mark i j c.flipped-j.ensures in
    let b = list_words r.layout t mark i j c.flipped-j.ensures c.cell_at-count.result c.cell_at-count.ensures.is in record {
      row = lt_of_lt_of_le a.2 (le_of_eq (sym (i.rows ∙ r.lengths)));
      first = subst (λ z. unsigned_abs z ≤ g.S.Signed.MOST) (sym (i.todo j a.0 (le_of_eq (sym a.1))))
          (r.fits (start c.args.pe.now j) (start_below r.layout j a.0));
      some = b.0;
      inside = le_trans b.1 (le_trans r.end (le_of_eq (sym i.long)));
      down = i.low;
      small = le_trans i.low (le_trans i.high (le_trans r.end r.wide.1));
    }

pub loop-src-smaller : goal.loop-src-smaller
loop-src-smaller g c = let a = (list_words c.requires.layout c.loop-src-test.true (sym c.names_one.ensures
    ∙ c.if-names_one.false) c.loop-src.invariant c.flipped-j.result c.flipped-j.ensures
    c.cell_at-count.result c.cell_at-count.ensures.is).0 in
    let b = c.loop-src-test.true in omega (arith, a, b)

pub loop-src-preserved : goal.loop-src-preserved
loop-src-preserved g c = let a = row_of c.requires.layout c.loop-src-test.true (sym c.names_one.ensures
    ∙ c.if-names_one.false) c.loop-src.invariant c.flipped-j.result c.flipped-j.ensures in
    rw (c.move_list.ensures.starts, c.cell_at-count.ensures.is)
    (swept_move c.flipped-j.result c.move_list.new.iw c.requires.layout c.requires.end c.requires.lengths c.loop-src-test.true
    c.flipped-j.ensures a.0 a.1 (subst (λ m. Moves (set c.loop-src.iw c.loop-src.src (word c.loop-src.pe c.flipped-j.result))
    c.move_list.new.iw c.loop-src.src c.loop-src.dst m) c.cell_at-count.ensures.is c.move_list.ensures.moves) c.loop-src.invariant)

pub returns-clause-compacts : goal.returns-clause-compacts
returns-clause-compacts g c = swept_all c.requires.layout c.loop-src-test.false c.loop-src.invariant

pub overflow_add-src : goal.overflow_add-src
overflow_add-src g c =
    let l = c.loop-src-test.true in place_fits (omega (arith, l)) c.requires.end c.requires.wide.1 g.met.P.Signed.narrow

pub overflow_add-src-else-names_one : goal.overflow_add-src-else-names_one
overflow_add-src-else-names_one g c = place_fits (list_words c.requires.layout c.loop-src-test.true (sym c.names_one.ensures
    ∙ c.if-names_one.false) c.loop-src.invariant c.flipped-j.result c.flipped-j.ensures
    c.cell_at-count.result c.cell_at-count.ensures.is).1 c.requires.end c.requires.wide.1 g.met.P.Signed.narrow

pub overflow_add-dst : goal.overflow_add-dst
overflow_add-dst g c = place_fits (le_trans (add-le-add c.loop-src.invariant.low (le_refl c.cell_at-count.result))
    (list_words c.requires.layout c.loop-src-test.true (sym c.names_one.ensures
    ∙ c.if-names_one.false) c.loop-src.invariant c.flipped-j.result c.flipped-j.ensures
    c.cell_at-count.result c.cell_at-count.ensures.is).1) c.requires.end c.requires.wide.1 g.met.P.Signed.narrow

pub flipped-j-requires-clause-inside : goal.flipped-j-requires-clause-inside
flipped-j-requires-clause-inside g c =
    let a = c.loop-src-test.true in let b = c.loop-src.invariant.long in let e = c.requires.end in omega (arith, a, b, e)

pub names_one-requires : goal.names_one-requires
names_one-requires g c =
    let a = c.loop-src-test.true in let b = c.loop-src.invariant.long in let e = c.requires.end in omega (arith, a, b, e)

pub loop-src-smaller-then-names_one : goal.loop-src-smaller-then-names_one
loop-src-smaller-then-names_one g c = falls c.args.free c.loop-src.src c.loop-src-test.true
