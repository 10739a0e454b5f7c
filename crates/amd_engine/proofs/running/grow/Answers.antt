use Rattle.std.proofs.Common.{◌<◌, ◌++◌, ◌∷◌, [], ◌^◌, ◌∙◌, arith, rules, ap, length, refl, sym, append_assoc, w64}
use Rattle.std.proofs.lemmas.Int.{to_z_pos}
use Rattle.std.proofs.lemmas.List.{append-nil, length-append}
use Rattle.amd_engine.proofs.running.grow.Goals as goal

pub returns-then-words-free-clause-words : goal.returns-then-words-free-clause-words
returns-then-words-free-clause-words g c = ([], sym (append-nil c.args.iw.now.items))

pub returns-then-words-free-clause-long : goal.returns-then-words-free-clause-long
returns-then-words-free-clause-long g c = c.requires.room.0

pub returns-then-words-free-clause-due : goal.returns-then-words-free-clause-due
returns-then-words-free-clause-due g c = λ short. let len = c.args.iw.now.ok.0 in omega (arith, len)

pub returns-then-words-free-clause-kept : goal.returns-then-words-free-clause-kept
returns-then-words-free-clause-kept g c = λ due. refl

pub returns-then-words-free-clause-capacity : goal.returns-then-words-free-clause-capacity
returns-then-words-free-clause-capacity g c = refl

pub words-init : goal.words-init
words-init g c = record { words = ([], sym (append-nil c.args.iw.now.items)); long = omega arith; capacity = refl }

pub overflow_cast-live : goal.overflow_cast-live
overflow_cast-live g c =
    let fits = c.requires.numbers.2 in let narrow = g.met.S.Signed.narrow in
    let small : c.args.live < 2 ^ 63 = omega (arith, fits, narrow) in search rules

pub word_of-requires : goal.word_of-requires
word_of-requires g c =
    let fits = c.requires.numbers.2 in let narrow = g.met.S.Signed.narrow in
    let is = ap lib.IntN.nat_abs (to_z_pos w64 c.args.live (omega (arith, fits, narrow))) in omega (arith, is, fits)

pub push_reserved-requires : goal.push_reserved-requires
push_reserved-requires g c =
    let old = c.args.iw.now.ok.0 in let len = c.words.iw.ok.0 in let long = c.words.invariant.long in
    let kept = c.words.invariant.capacity in let room = c.requires.room in let most = room.1 in omega (arith, old, len, long, kept, most)

pub words-preserved : goal.words-preserved
words-preserved g c =
    let i = c.words.invariant in let e = c.push_reserved.ensures in let x = c.word_of.result in let more = i.words.0 in
    let long = i.long in let added = ap length e.items ∙ length-append c.words.iw.items (x ∷ []) in record {
      words = (
        more ++ x ∷ [],
        e.items ∙ ap (λ xs. xs ++ x ∷ []) i.words.1 ∙ append_assoc c.args.iw.now.items more (x ∷ []),
      );
      long = omega (arith, added, long);
      capacity = e.capacity ∙ i.capacity;
    }

pub returns-clause-words : goal.returns-clause-words
returns-clause-words g c = c.words.invariant.words

pub returns-clause-long : goal.returns-clause-long
returns-clause-long g c = let long = c.words.invariant.long in let len = c.args.iw.now.ok.0 in omega (arith, long, len)

pub returns-clause-due : goal.returns-clause-due
returns-clause-due g c = λ short. let long = c.words.invariant.long in let len = c.args.iw.now.ok.0 in omega (arith, long, len)

pub returns-clause-few : goal.returns-clause-few
returns-clause-few g c = let long = c.words.invariant.long in let len = c.args.iw.now.ok.0 in omega (arith, long, len)

pub returns-clause-kept : goal.returns-clause-kept
returns-clause-kept g c = λ due. let len = c.args.iw.now.ok.0 in absurd (omega (arith, len))

pub returns-clause-capacity : goal.returns-clause-capacity
returns-clause-capacity g c = c.words.invariant.capacity
