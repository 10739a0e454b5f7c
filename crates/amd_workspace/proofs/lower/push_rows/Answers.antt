-- the goals of lower::push_rows.
use Rattle.std.proofs.Common.{◌<◌, ◌^◌, ◌++◌, ◌∷◌, [], arith, rules, ap, sym, length, ◌∙◌, w64, pos, append_assoc, replicate}
use Rattle.std.proofs.lemmas.Int.{to_z_pos}
use Rattle.std.proofs.lemmas.List.{length-append, length-replicate, replicate_more, append-nil}
use Rattle.amd_workspace.proofs.lower.push_rows.Goals as goal

pub words-init : goal.words-init
words-init g c = record {
  room = c.requires.room;
  capacity = omega arith;
  items = sym (append-nil c.args.iw.now.items);
}

pub word_of-requires : goal.word_of-requires
word_of-requires g c =
    let s = c.requires.small in let n = g.met.S.Signed.narrow in let low : c.args.row < 2 ^ 63 = omega (arith, s, n) in
    let is = ap lib.IntN.nat_abs (to_z_pos w64 c.args.row low) in omega (arith, is, s)

pub overflow_cast-row : goal.overflow_cast-row
overflow_cast-row g c =
    let s = c.requires.small in let n = g.met.S.Signed.narrow in let low : c.args.row < 2 ^ 63 = omega (arith, s, n) in search rules

pub push_reserved-requires : goal.push_reserved-requires
push_reserved-requires g c =
    let i = c.words.invariant in let long = length-replicate c.words.counter (pos c.args.row) in
    let both = length-append c.args.iw.now.items (replicate c.words.counter (pos c.args.row)) in
    let same = ap length i.items in let room = i.room in let len = c.words.iw.ok.0 in let t = c.words-test.true in
    omega (arith, long, both, same, room, len, t)

pub words-preserved : goal.words-preserved
words-preserved g c =
    let i = c.words.invariant in let e = c.push_reserved.ensures in
    let s = c.requires.small in let n = g.met.S.Signed.narrow in let low : c.args.row < 2 ^ 63 = omega (arith, s, n) in record {
      room = (let x = i.room in let y = e.capacity in omega (arith, x, y));
      capacity = (let x = i.capacity in let y = e.capacity in omega (arith, x, y));
      items = e.items ∙ ap (λ x. c.words.iw.items ++ x ∷ []) (c.word_of.ensures ∙ to_z_pos w64 c.args.row low)
          ∙ ap (λ xs. xs ++ pos c.args.row ∷ []) i.items
          ∙ append_assoc c.args.iw.now.items (replicate c.words.counter (pos c.args.row)) (pos c.args.row ∷ [])
          ∙ ap (λ xs. c.args.iw.now.items ++ xs) (replicate_more c.words.counter (pos c.args.row));
    }
