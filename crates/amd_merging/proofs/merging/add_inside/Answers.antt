use Rattle.std.proofs.Common.{rules, ℤ, suc, pos, negsuc, ◌≡◌, ◌<◌, ◌+◌, ◌^◌, ◌∙◌, ap, arith, set}
use Rattle.std.proofs.lemmas.Int.{ints}
use Rattle.amd_words.specs.Words.{word, size_of, in_front}
use Rattle.amd_words.proofs.Signs.{inside_is}
use Rattle.amd_merging.proofs.MovedRows.{moved_sizes, moved_front}
use Rattle.std.proofs.Common.{ℕ, ◌≤◌}
use Rattle.amd_words.proofs.TurnedSigns.{summed, small_sum}
use Rattle.amd_merging.proofs.merging.add_inside.Goals as goal

pub overflow_add-sum : goal.overflow_add-sum
overflow_add-sum g c =
    let y : ℤ = c.word_at.result in let z : ℤ = c.word_at-2.result in let ry = c.word_at.ensures.is in let rz = c.word_at-2.ensures.is in
    let a = inside_is (word c.args.nv.now c.args.j) c.requires.marked.1 in let b =
    inside_is (word c.args.nv.now c.args.i) c.requires.marked.0 in let ea = ry ∙ a.1 in let eb = rz ∙ b.1 in let ra = a.2 in let rb =
    b.2 in let s = c.requires.small in let top = g.met.S.Signed.narrow in
    search (rules, ints)

pub returns : goal.returns
returns g c = record {
  long = search rules;
  sizes = (λ x. let a = inside_is (word c.args.nv.now c.args.j) c.requires.marked.1 in let b =
      inside_is (word c.args.nv.now c.args.i) c.requires.marked.0 in
      let small : suc a.0 + suc b.0 < 2 ^ 63 = small_sum a.0 b.0 _ _ g.S.Signed.MOST a.2 b.2 c.requires.small g.met.S.Signed.narrow in
      let e = summed c.word_at.result c.word_at-2.result a.0 b.0 (c.word_at.ensures.is ∙ a.1) (c.word_at-2.ensures.is ∙ b.1) small in
      ap (λ l. size_of l x) (c.put_word-2.ensures ∙ ap (λ l. set l c.args.i (pos 0)) c.put_word.ensures)
      ∙ ap (λ m. size_of (set (set c.args.nv.now c.args.j m) c.args.i (pos 0)) x) e
      ∙ moved_sizes c.args.nv.now c.args.i c.args.j a.0 b.0 c.requires.inside.0 c.requires.inside.1 a.1 b.1 c.requires.other x);
  front = (λ x. let a = inside_is (word c.args.nv.now c.args.j) c.requires.marked.1 in let b =
      inside_is (word c.args.nv.now c.args.i) c.requires.marked.0 in
      let small : suc a.0 + suc b.0 < 2 ^ 63 = small_sum a.0 b.0 _ _ g.S.Signed.MOST a.2 b.2 c.requires.small g.met.S.Signed.narrow in
      let e = summed c.word_at.result c.word_at-2.result a.0 b.0 (c.word_at.ensures.is ∙ a.1) (c.word_at-2.ensures.is ∙ b.1) small in
      ap (λ l. in_front l x) (c.put_word-2.ensures ∙ ap (λ l. set l c.args.i (pos 0)) c.put_word.ensures)
      ∙ ap (λ m. in_front (set (set c.args.nv.now c.args.j m) c.args.i (pos 0)) x) e
      ∙ moved_front c.args.nv.now c.args.i c.args.j a.0 b.0 c.requires.inside.0 c.requires.inside.1 a.1 b.1 c.requires.other x);
}

-- the sum of two sizes is small where that of the numbers of rows is
sum_size : (z : ℤ) (a b p q most : ℕ) → z ≡ negsuc (a + b + 1) → p ≡ suc a → q ≡ suc b → p + q ≤ most → lib.IntN.nat_abs z ≤ most
sum_size z a b p q most is p_is q_is fits = let m = ap lib.IntN.nat_abs is in omega (arith, m, p_is, q_is, fits)

pub put_word-requires-clause-fits : goal.put_word-requires-clause-fits
put_word-requires-clause-fits g c =
    let a = inside_is (word c.args.nv.now c.args.j) c.requires.marked.1 in let b =
    inside_is (word c.args.nv.now c.args.i) c.requires.marked.0 in
    let small : suc a.0 + suc b.0 < 2 ^ 63 = small_sum a.0 b.0 _ _ g.S.Signed.MOST a.2 b.2 c.requires.small g.met.S.Signed.narrow in
    sum_size _ a.0 b.0 _ _ g.S.Signed.MOST
    (summed c.word_at.result c.word_at-2.result a.0 b.0 (c.word_at.ensures.is ∙ a.1) (c.word_at-2.ensures.is ∙ b.1) small)
    a.2 b.2 c.requires.small
