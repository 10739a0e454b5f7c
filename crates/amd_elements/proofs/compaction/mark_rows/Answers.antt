-- The proof of compaction::mark_rows.
use Rattle.std.proofs.Common.{◌≡◌, length, arith, le_refl, sym, subst, ◌∙◌}
use Rattle.amd_words.specs.Words.{start}
use Rattle.amd_elements.specs.Compaction.{Marked}
use Rattle.amd_elements.proofs.MarkedLists.{start_inside, marked_none, marked_yes, marked_no}
use Rattle.amd_elements.proofs.Moves.{has_not_place, has_no_words}
use Rattle.amd_elements.proofs.compaction.mark_rows.Goals as goal
use Rattle.amd_elements.proofs.compaction.mark_rows.Goals.{then-cell_at-gt0+then-names_one, else-cell_at-gt0}
use Rattle.amd_elements.proofs.compaction.mark_rows.Goals.{else-cell_at-gt0-via-then-cell_at-gt0+else-names_one}
use Rattle.amd_elements.proofs.compaction.mark_rows.Goals.{else-cell_at-gt0-via-else-cell_at-gt0}

pub loop-j-init : goal.loop-j-init
loop-j-init g c = marked_none c.args.iw.now c.args.pe.now c.args.len.now

pub mark_row-requires : goal.mark_row-requires
mark_row-requires g c =
    let r = c.requires.can.1 in let h = c.loop-j.invariant in let t = c.loop-j-test.true in let small = r.words.0 in
    let is = sym c.names_one.ensures ∙ c.if-names_one.true in record {
      row = (let a = h.rows in let b = r.lengths in omega (arith, t, a, b));
      small = (omega (arith, t, small), r.words.1);
      is_one = is;
      inside = (start_inside r.layout r.end h
          (let b = c.if-cell_at-gt0.true in let e = c.cell_at.ensures.is in omega (arith, b, e)) is).2;
    }

pub loop-j-preserved : goal.loop-j-preserved
loop-j-preserved g c = let h = c.loop-j.invariant in let same = h.later c.loop-j.j (le_refl c.loop-j.j) in elim c.if-cell_at-gt0.branch [
  | then-cell_at-gt0+then-names_one w ↦ (let a = start_inside c.requires.can.1.layout c.requires.can.1.end h (let b = w.if-cell_at-gt0.true in
      let e = c.cell_at.ensures.is in omega (arith, b, e)) (sym w.names_one.ensures ∙ w.if-names_one.true) in
      let s : start c.loop-j.pe c.loop-j.j ≡ start c.args.pe.now c.loop-j.j = a.1 in
      rw (
        w.iw-is,
        w.pe-is,
        w.mark_row.ensures.words,
        w.mark_row.ensures.starts,
        s,
      ) (marked_yes c.requires.can.1.layout c.requires.can.1.end (let t = c.loop-j-test.true in omega (arith, c.requires.can.1.lengths, t)) a.0 h))
  | else-cell_at-gt0 w ↦ rw (w.iw-is, w.pe-is) (marked_no (elim w.else-cell_at-gt0.branch [
    | else-cell_at-gt0-via-then-cell_at-gt0+else-names_one w' ↦ has_not_place c.args.pe.now c.loop-j.pe c.args.len.now c.loop-j.j same
        (sym w'.names_one.ensures ∙ w'.if-names_one.false)
    | else-cell_at-gt0-via-else-cell_at-gt0 w' ↦ has_no_words c.args.pe.now c.args.len.now c.loop-j.j
        (let b = w'.if-cell_at-gt0.false in let e = c.cell_at.ensures.is in omega (arith, b, e))
  ]) h)
]

pub returns : goal.returns
returns g c =
    let a = c.loop-j.auto.j-end in let b = c.loop-j-test.false in let e : c.loop-j.j ≡ length c.args.len.now = omega (arith, a, b) in
    subst (λ m. Marked c.args.iw.now c.args.pe.now c.args.len.now c.loop-j.iw c.loop-j.pe m) e c.loop-j.invariant
