use Rattle.std.proofs.Common.{ℕ, ℤ, List, ◌≡◌, inl, inr, true, cond, refl, arith, sym, ap, ◌∙◌, ◌+◌, ◌-◌, length, subst}
use Rattle.amd_model.specs.Quotient.{has}
use Rattle.amd_words.specs.Words.{num, word, place, start, rows}
use Rattle.amd_round_laws.specs.Rounds.{alike_in}
use Rattle.amd_merging.specs.Classes.{Lists}
use Rattle.amd_merging.specs.Reading.{lists_read}
use Rattle.amd_merging.specs.Merging.{Finds, IsRenewed, bucket, looks, kept_of, words_of}
use Rattle.amd_lists.specs.Layout.{variables_in}
use Rattle.amd_words.proofs.RowLists.{names_at}
use Rattle.amd_merging.proofs.Likeness.{looks_alike}
use Rattle.amd_words.specs.Sides.{nexts}
use Rattle.amd_merging.proofs.merging.find.Goals as goal

pub named-from-requires-clause-inside : goal.named-from-requires-clause-inside
named-from-requires-clause-inside g c = let a = c.requires.here.row in let n = c.requires.walk.lengths.0 in omega (arith, a, n)

pub named-from-requires-clause-is_one : goal.named-from-requires-clause-is_one
named-from-requires-clause-is_one g c = c.requires.here.starts

pub named-few-requires-clause-inside : goal.named-few-requires-clause-inside
named-few-requires-clause-inside g c = let a = c.requires.here.row in let n = c.requires.walk.lengths.1 in omega (arith, a, n)

pub named-few-requires-clause-is_one : goal.named-few-requires-clause-is_one
named-few-requires-clause-is_one g c = c.requires.here.counts

pub cell_at-count-requires : goal.cell_at-count-requires
cell_at-count-requires g c = let a = c.requires.here.row in let n = c.requires.walk.lengths.2 in omega (arith, a, n)

pub spread-requires-clause-fits : goal.spread-requires-clause-fits
spread-requires-clause-fits g c = c.requires.fits

pub spread-requires-clause-span : goal.spread-requires-clause-span
spread-requires-clause-span g c = record {
  inside = (let f = c.named-from.ensures in let n = c.cell_at-count.ensures.is in let h = c.requires.here in
      let a = h.some in let b = h.parts in let w = h.within in omega (arith, f, n, a, b, w));
  names = (names_at c.args.lists.now.iw.now refl (ap (λ s. s + 1) (sym c.named-from.ensures))
      (ap (λ m. m - 1) (sym c.cell_at-count.ensures.is)) c.requires.here.names);
}

pub walk-requires : goal.walk-requires
walk-requires g c = record {
  lengths = (let l = c.requires.walk.lengths in let w = sym c.spread.ensures.long in
      (l.0 ∙ w, l.1 ∙ w, l.2 ∙ w, l.3 ∙ w));
  chain = (c.requires.walk.chain);
  members = (λ j h. let p : Lists = lists_read c.args.lists.now in subst (λ n. IsRenewed n p.iw p.pe p.e_len p.len j)
      (sym c.spread.ensures.long) (c.requires.walk.members j h));
}

pub returns : goal.returns
returns g c = record {
  found = (let p : Lists = lists_read c.args.lists.now in let iw : List ℤ = p.iw in let pe : List ℤ = p.pe in
      let e_len : List ℤ = p.e_len in let len : List ℕ = p.len in let i : ℕ = c.args.i in
      let w : List ℕ = c.spread.new.w in let flag : ℕ = c.args.flag in
      let first : c.named-from.result ≡ start pe i = c.named-from.ensures in
      let few : c.named-few.result ≡ place (word e_len i) = c.named-few.ensures in
      let marked : (x : ℕ) → num w x ≡ cond (has (words_of iw pe len i) x) flag (num c.args.w.now x) = λ x. c.spread.ensures.marked x
      ∙ ap (λ m. cond (has (rows iw (c.named-from.result + 1) (m - 1)) x) flag (num c.args.w.now x)) c.cell_at-count.ensures.is
      ∙ ap (λ s. cond (has (rows iw (s + 1) (num len i - 1)) x) flag (num c.args.w.now x)) first in
      let is : (x : ℕ) → has (bucket (nexts c.args.sides.now) c.args.head) x ≡ true →
      looks p w (num len i) c.named-few.result flag x ≡ alike_in (kept_of iw pe e_len) (variables_in iw pe e_len len) i x
      = λ x h. ap (λ f. looks p w (num len i) f flag x) few
      ∙ looks_alike (length c.args.w.now) iw pe e_len len i x c.requires.here (c.requires.walk.members x h) w c.args.w.now flag
      (c.requires.apart x h) c.requires.under marked in
      elim (subst (λ m. Finds (length (nexts c.args.sides.now)) (looks p w m c.named-few.result flag)
      (bucket (nexts c.args.sides.now) c.args.head) c.walk.result) c.cell_at-count.ensures.is c.walk.ensures) [
        | inl q ↦ inl (q.0, q.1, sym (is c.walk.result q.1) ∙ q.2)
        | inr q ↦ inr (q.0, λ x h. sym (is x h) ∙ q.1 x h)
      ]);
  long = (c.spread.ensures.long);
  marked = (λ x. let p : Lists = lists_read c.args.lists.now in c.spread.ensures.marked x
      ∙ ap (λ m. cond (has (rows p.iw (c.named-from.result + 1) (m - 1)) x) c.args.flag (num c.args.w.now x))
      c.cell_at-count.ensures.is
      ∙ ap (λ s. cond (has (rows p.iw (s + 1) (num p.len c.args.i - 1)) x) c.args.flag (num c.args.w.now x))
      c.named-from.ensures);
}
