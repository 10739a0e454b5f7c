-- The words so far have the numbers so far.
use Rattle.std.proofs.Common.{◌≡◌, ◌∙◌, ◌++◌, ◌∷◌, [], arith, rules, get_or, pos, ap, length, length-take, sym}
use Rattle.std.proofs.lemmas.List.{take_all, take_more}
use borrow.Author.Count.{falls}
use Rattle.amd_engine_tests.proofs.tests.trees.words_of.Goals as goal

pub numbers-init : goal.numbers-init
numbers-init g c = record {
  room = (let most = c.in-Ok.ensures.capacity in omega (arith, most));
  items = c.in-Ok.ensures.items;
}

pub bounds-numbers-number-index : goal.bounds-numbers-number-index
bounds-numbers-number-index g c = c.numbers-test.true

pub push_reserved-requires : goal.push_reserved-requires
push_reserved-requires g c =
    let len = c.numbers.words.ok.0 in
    let long = ap length c.numbers.invariant.items ∙ length-take c.numbers.number-index c.args.numbers.now in
    let room = c.numbers.invariant.room in let more = c.numbers-test.true in omega (arith, len, long, room, more)

pub numbers-smaller : goal.numbers-smaller
numbers-smaller g c = falls (length c.args.numbers.now) c.numbers.number-index c.numbers-test.true

pub numbers-preserved : goal.numbers-preserved
numbers-preserved g c =
    let numbers = c.args.numbers.now in let k = c.numbers.number-index in
    let here : c.checked.result ≡ get_or numbers k (pos 0) = search rules in record {
      room = (let room = c.numbers.invariant.room in let same = c.push_reserved.ensures.capacity in omega (arith, room, same));
      items = c.push_reserved.ensures.items ∙ ap (λ x. c.numbers.words.items ++ x ∷ []) here
          ∙ ap (λ l. l ++ get_or numbers k (pos 0) ∷ []) c.numbers.invariant.items
          ∙ sym (take_more numbers k (pos 0) c.numbers-test.true);
    }

pub returns : goal.returns
returns g c = c.numbers.invariant.items ∙ take_all c.numbers.number-index c.args.numbers.now c.numbers-test.false
