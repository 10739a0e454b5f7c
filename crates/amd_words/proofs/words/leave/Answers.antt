use Rattle.std.proofs.Common.{◌≡◌, ◌∙◌, ap, sym, set}
use Rattle.amd_words.specs.Words.{word, size_of, in_front}
use Rattle.amd_words.proofs.Signs.{inside_is, back_size, back_front}
use Rattle.amd_words.proofs.TurnedSigns.{turned_back, back_casts, small_mark}
use Rattle.amd_words.proofs.words.leave.Goals as goal

pub overflow_cast-result : goal.overflow_cast-result
overflow_cast-result g c =
    let a = inside_is (word c.args.nv.now c.args.j) c.requires.marked in
    let is : c.word_at-rows.result ≡ lib.IntN.negsuc a.0 = c.word_at-rows.ensures.is ∙ a.1 in
    back_casts c.word_at-rows.result a.0 is
    (small_mark c.word_at-rows.result a.0 g.S.Signed.MOST is c.word_at-rows.ensures.small g.met.S.Signed.narrow)

pub returns-clause-rows : goal.returns-clause-rows
returns-clause-rows g c =
    let a = inside_is (word c.args.nv.now c.args.j) c.requires.marked in
    let is : c.word_at-rows.result ≡ lib.IntN.negsuc a.0 = c.word_at-rows.ensures.is ∙ a.1 in
    ap lib.IntN.nat_abs (turned_back c.word_at-rows.result a.0 is
    (small_mark c.word_at-rows.result a.0 g.S.Signed.MOST is c.word_at-rows.ensures.small g.met.S.Signed.narrow)) ∙ sym a.2

pub returns-clause-sizes : goal.returns-clause-sizes
returns-clause-sizes g c i =
    let a = inside_is (word c.args.nv.now c.args.j) c.requires.marked in
    let is : c.word_at-rows.result ≡ lib.IntN.negsuc a.0 = c.word_at-rows.ensures.is ∙ a.1 in
    ap (λ l. size_of l i) (c.put_word.ensures ∙ ap (set c.args.nv.now c.args.j) (turned_back c.word_at-rows.result a.0 is
    (small_mark c.word_at-rows.result a.0 g.S.Signed.MOST is c.word_at-rows.ensures.small g.met.S.Signed.narrow)))
    ∙ back_size c.args.nv.now c.args.j a.0 c.requires.inside a.1 i

pub returns-clause-front : goal.returns-clause-front
returns-clause-front g c i =
    let a = inside_is (word c.args.nv.now c.args.j) c.requires.marked in
    let is : c.word_at-rows.result ≡ lib.IntN.negsuc a.0 = c.word_at-rows.ensures.is ∙ a.1 in
    ap (λ l. in_front l i) (c.put_word.ensures ∙ ap (set c.args.nv.now c.args.j) (turned_back c.word_at-rows.result a.0 is
    (small_mark c.word_at-rows.result a.0 g.S.Signed.MOST is c.word_at-rows.ensures.small g.met.S.Signed.narrow)))
    ∙ back_front c.args.nv.now c.args.j a.0 c.requires.inside a.1 i
