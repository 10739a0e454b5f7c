-- The numbers so far are those of the words so far.
use Rattle.std.proofs.Common.{◌≡◌, ◌∙◌, to_z, of_z, w64, get_or, rules, ◌++◌, ◌∷◌, [], arith, ap, length, length-take, sym, pos}
use Rattle.std.proofs.lemmas.List.{take_all, take_more}
use Rattle.amd_engine_tests.proofs.tests.own_lists.words_of.Goals as goal

pub words-init : goal.words-init
words-init g c = record {
  room = (let most = c.in-Ok.ensures.capacity in omega (arith, most));
  items = c.in-Ok.ensures.items;
}

pub push_reserved-requires : goal.push_reserved-requires
push_reserved-requires g c =
    let len = c.words.numbers.ok.0 in
    let long = ap length c.words.invariant.items ∙ length-take c.words.k c.args.words.now in
    let room = c.words.invariant.room in let more = c.words-test.true in omega (arith, len, long, room, more)

pub words-preserved : goal.words-preserved
words-preserved g c =
    let words = c.args.words.now in let k = c.words.k in
    let same : to_z w64 (of_z w64 c.word_at.result) ≡ c.word_at.result = search rules in record {
      room = (let room = c.words.invariant.room in let same = c.push_reserved.ensures.capacity in omega (arith, room, same));
      items = c.push_reserved.ensures.items ∙ ap (λ x. c.words.numbers.items ++ x ∷ []) (same ∙ c.word_at.ensures.is)
          ∙ ap (λ l. l ++ get_or words k (pos 0) ∷ []) c.words.invariant.items ∙ sym (take_more words k (pos 0) c.words-test.true);
    }

pub returns : goal.returns
returns g c = c.words.invariant.items ∙ take_all c.words.k c.args.words.now c.words-test.false
