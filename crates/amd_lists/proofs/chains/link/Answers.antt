use Rattle.std.proofs.Common.{List, ℕ, sym, ap, le_of_eq, lt_of_lt_of_le, ◌≡◌, ◌∙◌, arith, set, length, get_or-set_same, get_or-set_other}
use Rattle.amd_words.specs.Sides.{nexts, lasts}
use Rattle.amd_words.proofs.SideLists.{both_long, lasts_same, nexts_same}
use Rattle.amd_words.specs.Words.{num}
use Rattle.amd_lists.proofs.chains.link.Goals as goal
use Rattle.amd_lists.proofs.chains.link.Goals.{then-after-n, else-after-n}

pub returns : goal.returns
returns g c = record {
  relinks = (let at = c.cell_at-after.ensures.is in let i = c.args.i in let d = c.args.d in let head = c.args.head.now in
      let next : List ℕ = nexts c.args.sides.now in let last : List ℕ = lasts c.args.sides.now in
      let row = c.requires.row.0 in let bound = c.requires.row.1 in let after : ℕ = c.cell_at-after.result in
      let long = both_long c.args.sides.now in let mid = lasts_same _ _ c.if-after-n.auto.sides in
      let lasts_mid : List ℕ = lasts c.if-after-n.sides in
      let nexts_mid : nexts c.if-after-n.sides ≡ next = elim c.if-after-n.branch [
        | then-after-n w ↦ ap nexts w.sides-is ∙ w.put_last.ensures.nexts
        | else-after-n w ↦ ap nexts w.sides-is
      ] in
      let nexts_put : nexts c.put_last-2.new.sides ≡ set next i after = c.put_last-2.ensures.nexts ∙ c.put_next.ensures.nexts
      ∙ ap (λ l. set l i after) nexts_mid in
      let lasts_put : lasts c.put_last-2.new.sides ≡ set lasts_mid i (length next) = c.put_last-2.ensures.lasts
      ∙ ap (λ l. set l i c.row_count-n.result) c.put_next.ensures.lasts ∙ ap (λ m. set lasts_mid i m) c.row_count-n.ensures in record {
        nexts = λ x ne. ap (λ l. num l x) nexts_put ∙ get_or-set_other next i x after 0 ne;
        next_is = ap (λ l. num l i) nexts_put ∙ get_or-set_same next i after 0 row ∙ at;
        lasts = λ x ne nh. ap (λ l. num l x) lasts_put
            ∙ get_or-set_other lasts_mid i x (length next) 0 ne
            ∙ elim c.if-after-n.branch [
              | then-after-n w ↦ ap (λ l. num l x) (ap lasts w.sides-is ∙ w.put_last.ensures.lasts)
                  ∙ get_or-set_other last after x i 0 (λ q. nh (q ∙ at))
              | else-after-n w ↦ ap (λ s. num (lasts s) x) w.sides-is
            ];
        last_is = ap (λ l. num l i) lasts_put
            ∙ get_or-set_same lasts_mid i (length next) 0 (omega (arith, row, long, mid));
        last_after = λ small ne. ap (λ l. num l (num head d)) lasts_put
            ∙ get_or-set_other lasts_mid i (num head d) (length next) 0 ne
            ∙ elim c.if-after-n.branch [
              | then-after-n w ↦ ap (λ l. num l (num head d)) (ap lasts w.sides-is ∙ w.put_last.ensures.lasts
                  ∙ ap (λ a. set last a i) at)
                  ∙ get_or-set_same last (num head d) i 0 (omega (arith, small, long))
              | else-after-n w ↦ (let f = w.if-after-n.false in let e = c.row_count-n.ensures in absurd (omega (arith, f, small, at, e)))
            ];
        heads = λ b ne. ap (λ l. num l b) c.put_cell.ensures ∙ get_or-set_other head d b i 0 ne;
        head_is = (let h = c.requires.long in
            ap (λ l. num l d) c.put_cell.ensures ∙ get_or-set_same head d i 0 (omega (arith, bound, h)));
      });
  lengths = (let same = c.put_last-2.auto.sides ∙ c.put_next.auto.sides ∙ c.if-after-n.auto.sides in (
    c.put_cell.auto.cells ∙ c.requires.long,
    nexts_same _ _ same,
    lasts_same _ _ same ∙ both_long c.args.sides.now,
  ));
}

pub put_next-requires-clause-inside : goal.put_next-requires-clause-inside
put_next-requires-clause-inside g c =
    lt_of_lt_of_le c.requires.row.0 (le_of_eq (sym (nexts_same _ _ c.if-after-n.auto.sides)))

pub put_last-requires-2-clause-inside : goal.put_last-requires-2-clause-inside
put_last-requires-2-clause-inside g c = lt_of_lt_of_le c.requires.row.0
    (le_of_eq (sym (nexts_same _ _ c.put_next.auto.sides ∙ nexts_same _ _ c.if-after-n.auto.sides)))
