use Rattle.std.proofs.Common.{◌≡◌, replicate, ◌++◌, ◌∷◌, [], arith, ap, length, ◌∙◌, w64, to_z, of_z}
use Rattle.std.proofs.lemmas.Int.{to_z-of_z}
use Rattle.std.proofs.lemmas.List.{length-replicate, replicate_more}
use Rattle.std.specs.Vec.{vec_capacity}
use Rattle.amd_workspace.proofs.filling.fill_words.Goals as goal

pub push_reserved-requires : goal.push_reserved-requires
push_reserved-requires g c =
    let i = c.words.invariant in let long = length-replicate c.words.counter (to_z w64 (of_z w64 c.args.number)) in
    let same = ap length i.items in let room = i.room in let wide = c.requires.room in let len = c.words.own.ok.0 in
    omega (arith, long, same, room, wide, len)

pub words-preserved : goal.words-preserved
words-preserved g c =
    let i = c.words.invariant in let e = c.push_reserved.ensures in record {
      room = e.capacity ∙ i.room;
      items = e.items ∙ ap (λ x. c.words.own.items ++ x ∷ []) c.word_of.ensures
          ∙ ap (λ xs. xs ++ (to_z w64 (of_z w64 c.args.number)) ∷ []) i.items
          ∙ replicate_more c.words.counter (to_z w64 (of_z w64 c.args.number));
    }

pub words-init : goal.words-init
words-init g c = record {
  room = c.clear.ensures.capacity ∙ ap vec_capacity c.replace-own.ensures.value;
  items = c.clear.ensures.items;
}

pub returns-clause-items : goal.returns-clause-items
returns-clause-items g c =
    let end : c.words.counter ≡ c.args.count = (let a = c.words-test.false in let b = c.words.auto.counter-end in omega (arith, a, b)) in
    c.words.invariant.items ∙ ap (λ n. replicate n (to_z w64 (of_z w64 c.args.number))) end
    ∙ ap (λ x. replicate c.args.count x) (to_z-of_z w64 c.args.number c.ranges.number)
