use Rattle.std.proofs.Common.{rules, ℤ, suc, pos, ◌≡◌, ◌∙◌, ap, sym, w64, FitsSigned, set}
use Rattle.std.proofs.lemmas.Int.{to_z-of_z, ints}
use Rattle.amd_words.specs.Words.{word, size_of, in_front}
use Rattle.amd_words.proofs.Signs.{open_is, turned_size, turned_front}
use Rattle.amd_words.proofs.TurnedSigns.{turned_over, small_size}
use Rattle.amd_words.proofs.words.enter.Goals as goal

pub overflow_cast-result : goal.overflow_cast-result
overflow_cast-result g c = let a = open_is (word c.args.nv.now c.args.j) c.requires.class c.requires.fresh in let e =
    c.word_at-rows.ensures.is ∙ a.1 in search (rules, ints)

pub returns-clause-rows : goal.returns-clause-rows
returns-clause-rows g c = let z : ℤ = c.word_at-rows.result in let a =
    open_is (word c.args.nv.now c.args.j) c.requires.class c.requires.fresh in
    let f : FitsSigned w64 z = search rules in ap lib.IntN.nat_abs (to_z-of_z w64 z f ∙ c.word_at-rows.ensures.is ∙ a.1) ∙ sym a.2

pub returns-clause-sizes : goal.returns-clause-sizes
returns-clause-sizes g c i =
    let a = open_is (word c.args.nv.now c.args.j) c.requires.class c.requires.fresh in
    let is : c.word_at-rows.result ≡ lib.IntN.pos (suc a.0) = c.word_at-rows.ensures.is ∙ a.1 in
    ap (λ l. size_of l i) (c.put_word.ensures ∙ ap (set c.args.nv.now c.args.j) (turned_over c.word_at-rows.result a.0 is
    (small_size c.word_at-rows.result a.0 g.S.Signed.MOST is c.word_at-rows.ensures.small g.met.S.Signed.narrow)))
    ∙ turned_size c.args.nv.now c.args.j a.0 c.requires.inside a.1 i

pub returns-clause-front : goal.returns-clause-front
returns-clause-front g c i =
    let a = open_is (word c.args.nv.now c.args.j) c.requires.class c.requires.fresh in
    let is : c.word_at-rows.result ≡ lib.IntN.pos (suc a.0) = c.word_at-rows.ensures.is ∙ a.1 in
    ap (λ l. in_front l i) (c.put_word.ensures ∙ ap (set c.args.nv.now c.args.j) (turned_over c.word_at-rows.result a.0 is
    (small_size c.word_at-rows.result a.0 g.S.Signed.MOST is c.word_at-rows.ensures.small g.met.S.Signed.narrow)))
    ∙ turned_front c.args.nv.now c.args.j a.0 c.requires.inside a.1 i
