use Rattle.std.proofs.Common.{List, ℕ, refl, sym, ap, le_of_eq, lt_of_lt_of_le, ◌≡◌, ◌∙◌, arith, set, get_or-set_same, get_or-set_other}
use Rattle.amd_words.specs.Sides.{nexts, lasts}
use Rattle.amd_words.proofs.SideLists.{both_long, lasts_same, nexts_same}
use Rattle.amd_words.specs.Words.{num}
use Rattle.amd_lists.proofs.chains.unlink.Goals as goal
use Rattle.amd_lists.proofs.chains.unlink.Goals.{then-after-n, else-after-n}

pub returns-then-before-n : goal.returns-then-before-n
returns-then-before-n g c = record {
  unlinks = (let was = c.last_at-before.ensures.is in let at = c.next_at-after.ensures.is in let i = c.args.i in
      let before : ℕ = c.last_at-before.result in let after : ℕ = c.next_at-after.result in
      let next : List ℕ = nexts c.args.sides.now in let last : List ℕ = lasts c.args.sides.now in
      let long = both_long c.args.sides.now in let test = c.if-before-n.true in let rows = c.row_count-n.ensures in
      let nexts_mid : nexts c.if-after-n.sides ≡ next = elim c.if-after-n.branch [
        | then-after-n w ↦ ap nexts w.sides-is ∙ w.put_last.ensures.nexts
        | else-after-n w ↦ ap nexts w.sides-is
      ] in
      let nexts_put : nexts c.put_next.new.sides ≡ set next before after = c.put_next.ensures.nexts
      ∙ ap (λ l. set l before after) nexts_mid in
      let lasts_put = c.put_next.ensures.lasts in record {
        lasts = λ x ne. ap (λ l. num l x) lasts_put ∙ elim c.if-after-n.branch [
          | then-after-n w ↦ ap (λ l. num l x) (ap lasts w.sides-is ∙ w.put_last.ensures.lasts)
              ∙ get_or-set_other last after x before 0 (λ q. ne (q ∙ at))
          | else-after-n w ↦ ap (λ s. num (lasts s) x) w.sides-is
        ];
        last_is = λ small. ap (λ l. num l (num next i)) lasts_put ∙ elim c.if-after-n.branch [
          | then-after-n w ↦ ap (λ l. num l (num next i)) (ap lasts w.sides-is ∙ w.put_last.ensures.lasts
              ∙ ap (λ a. set last a before) at)
              ∙ get_or-set_same last (num next i) before 0 (omega (arith, small, long)) ∙ was
          | else-after-n w ↦ (let f = w.if-after-n.false in absurd (omega (arith, f, small, at, rows)))
        ];
        nexts = λ x ne. ap (λ l. num l x) nexts_put ∙ get_or-set_other next before x after 0 (λ q. ne (q ∙ was));
        next_is = λ small. ap (λ l. num l (num last i)) (nexts_put ∙ ap (λ b. set next b after) was)
            ∙ get_or-set_same next (num last i) after 0 small ∙ at;
        heads = λ b ne. refl;
        head_stays = λ small. refl;
        head_is = λ none. absurd (omega (arith, none, was, test, rows));
      });
  lengths = (let same = c.put_next.auto.sides ∙ c.if-after-n.auto.sides in (
    c.requires.long,
    nexts_same _ _ same,
    lasts_same _ _ same ∙ both_long c.args.sides.now,
  ));
}

pub returns-else-before-n : goal.returns-else-before-n
returns-else-before-n g c = record {
  unlinks = (let was = c.last_at-before.ensures.is in let at = c.next_at-after.ensures.is in let i = c.args.i in let d = c.args.d in
      let before : ℕ = c.last_at-before.result in let after : ℕ = c.next_at-after.result in
      let next : List ℕ = nexts c.args.sides.now in let last : List ℕ = lasts c.args.sides.now in
      let head = c.args.head.now in let bound = c.requires.row.1 in let wide = c.requires.long in
      let long = both_long c.args.sides.now in let test = c.if-before-n.false in let rows = c.row_count-n.ensures in
      let nexts_mid : nexts c.if-after-n.sides ≡ next = elim c.if-after-n.branch [
        | then-after-n w ↦ ap nexts w.sides-is ∙ w.put_last.ensures.nexts
        | else-after-n w ↦ ap nexts w.sides-is
      ] in
      let put = c.put_cell.ensures in record {
        lasts = λ x ne. elim c.if-after-n.branch [
          | then-after-n w ↦ ap (λ l. num l x) (ap lasts w.sides-is ∙ w.put_last.ensures.lasts)
              ∙ get_or-set_other last after x before 0 (λ q. ne (q ∙ at))
          | else-after-n w ↦ ap (λ s. num (lasts s) x) w.sides-is
        ];
        last_is = λ small. elim c.if-after-n.branch [
          | then-after-n w ↦ ap (λ l. num l (num next i)) (ap lasts w.sides-is ∙ w.put_last.ensures.lasts
              ∙ ap (λ a. set last a before) at)
              ∙ get_or-set_same last (num next i) before 0 (omega (arith, small, long)) ∙ was
          | else-after-n w ↦ (let f = w.if-after-n.false in absurd (omega (arith, f, small, at, rows)))
        ];
        nexts = λ x ne. ap (λ l. num l x) nexts_mid;
        next_is = λ small. absurd (omega (arith, small, was, test, rows));
        heads = λ b ne. ap (λ l. num l b) put ∙ get_or-set_other head d b after 0 ne;
        head_stays = λ small. absurd (omega (arith, small, was, test, rows));
        head_is = λ none. ap (λ l. num l d) put ∙ get_or-set_same head d after 0 (omega (arith, bound, wide)) ∙ at;
      });
  lengths = (let same = c.if-after-n.auto.sides in (
    c.put_cell.auto.cells ∙ c.requires.long,
    nexts_same _ _ same,
    lasts_same _ _ same ∙ both_long c.args.sides.now,
  ));
}

pub put_next-requires-clause-inside : goal.put_next-requires-clause-inside
put_next-requires-clause-inside g c =
    lt_of_lt_of_le c.if-before-n.true (le_of_eq (c.row_count-n.ensures ∙ sym (nexts_same _ _ c.if-after-n.auto.sides)))
