use Rattle.std.proofs.Common.{◌≡◌, ◌∙◌, ap, sym}
use Rattle.amd_words.specs.Words.{word}
use Rattle.amd_words.proofs.Signs.{inside_is}
use Rattle.amd_words.proofs.TurnedSigns.{turned_back, back_casts, small_mark}
use Rattle.amd_words.proofs.words.size_inside.Goals as goal

pub overflow_cast-result : goal.overflow_cast-result
overflow_cast-result g c =
    let a = inside_is (word c.args.nv.now c.args.j) c.requires.marked in
    let is : c.word_at.result ≡ lib.IntN.negsuc a.0 = c.word_at.ensures.is ∙ a.1 in
    back_casts c.word_at.result a.0 is
    (small_mark c.word_at.result a.0 g.S.Signed.MOST is c.word_at.ensures.small g.met.S.Signed.narrow)

pub returns : goal.returns
returns g c =
    let a = inside_is (word c.args.nv.now c.args.j) c.requires.marked in
    let is : c.word_at.result ≡ lib.IntN.negsuc a.0 = c.word_at.ensures.is ∙ a.1 in
    ap lib.IntN.nat_abs (turned_back c.word_at.result a.0 is
    (small_mark c.word_at.result a.0 g.S.Signed.MOST is c.word_at.ensures.small g.met.S.Signed.narrow)) ∙ sym a.2
