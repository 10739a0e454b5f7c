-- the goals of bounds::renew_bounds.
use Rattle.std.proofs.Common.{◌≡◌, ◌<◌, ◌+◌, ◌-◌, ℕ, length, get_or, arith, ap, sym, ◌∙◌}
use Rattle.std.specs.Prelude.{sum_by, min, true}
use Rattle.std.proofs.lemmas.Grind.{get_or_default_zero}
use Rattle.std.proofs.lemmas.List.{length-set, get_or-set_same, get_or-set_other}
use Rattle.amd_model.specs.Figures.{cut}
use Rattle.amd_model.specs.Quotient.{has}
use Rattle.amd_plain.specs.Views.{num, list_at}
use Rattle.amd_plain.specs.Rounds.{plain_bound}
use Rattle.amd_round_laws.proofs.Lists.Cuts.{cut_more}
use Rattle.amd_plain.proofs.Kept.{changed_more, changed_none, unchanged}
use Rattle.amd_round_laws.proofs.Lists.Named.{has_at}
use Rattle.amd_plain.proofs.ListPlaces.{list_read}
use Rattle.std.proofs.Common.{lt_of_lt_of_le, le_of_eq, refl}
use Rattle.amd_plain.proofs.Kept.{changed_all}
use Rattle.amd_plain.proofs.ReadLists.{read_below}
use borrow.Author.Count.{falls}
use Rattle.amd_plain.proofs.bounds.renew_bounds.Goals as goal

pub loop-i-init : goal.loop-i-init
loop-i-init g c = record {
  bounds = changed_none c.args.made.now (plain_bound c.args.border c.args.live c.args.lists.now c.args.beyond.now c.args.size.now
      c.args.bound.now.items) (num c.args.bound.now.items);
  room = Rattle.std.proofs.Common.refl;
}

pub overflow_sub-near : goal.overflow_sub-near
overflow_sub-near g c = (c.requires.sizes _ (has_at c.args.made.now c.loop-i.i-index 0 c.loop-i-test.true)).0

pub overflow_add-near : goal.overflow_add-near
overflow_add-near g c =
    let made = c.args.made.now in
    let k = c.loop-i.i-index in
    let i : ℕ = get_or made k 0 in
    let named : has made i ≡ true = has_at made k 0 c.loop-i-test.true in
    let old = c.args.bound.now.items in
    let new = plain_bound c.args.border c.args.live c.args.lists.now c.args.beyond.now c.args.size.now old in
    let room = c.loop-i.invariant.room in
    let small = c.requires.range k 0 c.loop-i-test.true in
    let lengths = c.requires.lengths.1 in
    let within : i < length c.loop-i.bound.items = omega (arith, room, small, lengths) in
    let stays = unchanged made k 0 c.loop-i-test.true new (num old) (num c.loop-i.bound.items) c.loop-i.invariant.bounds c.requires.once in
    let read : c.index-in-loop-i-2.result.now ≡ num old i = c.index-in-loop-i-2.ensures ∙
    get_or_default_zero c.loop-i.bound.items i c.index-in-loop-i-2.result.now within ∙ stays in
    let fits = c.requires.fits i named in
    let least = c.min.ensures in
    record { fits = omega (arith, fits, least, read) }

pub overflow_sub-live : goal.overflow_sub-live
overflow_sub-live g c = (c.requires.sizes _ (has_at c.args.made.now c.loop-i.i-index 0 c.loop-i-test.true)).1

pub loop-i-preserved : goal.loop-i-preserved
loop-i-preserved g c =
    let made = c.args.made.now in
    let k = c.loop-i.i-index in
    let i : ℕ = get_or made k 0 in
    let size = c.args.size.now in
    let beyond = c.args.beyond.now in
    let lists = c.args.lists.now in
    let old = c.args.bound.now.items in
    let now = c.loop-i.bound.items in
    let new = plain_bound c.args.border c.args.live lists beyond size old in
    let room = c.loop-i.invariant.room in
    let small = c.requires.range k 0 c.loop-i-test.true in
    let lengths = c.requires.lengths.1 in
    let within : i < length now = omega (arith, room, small, lengths) in
    let stays = unchanged made k 0 c.loop-i-test.true new (num old) (num now) c.loop-i.invariant.bounds c.requires.once in
    let read : c.index-in-loop-i-2.result.now ≡ num old i = c.index-in-loop-i-2.ensures ∙
    get_or_default_zero now i c.index-in-loop-i-2.result.now within ∙ stays in
    let e_size = c.requires.elements.0 in
    let v_size = c.requires.variables.0 in
    let es = list_read lists.elements.items i c.index.result.now (omega (arith, small, e_size)) c.index.ensures in
    let vs = list_read lists.variables.items i c.index-in-loop-i.result.now (omega (arith, small, v_size)) c.index-in-loop-i.ensures in
    let far : ℕ = sum_by (num beyond) (list_at lists.elements.items i) in
    let near : ℕ = sum_by (num size) (list_at lists.variables.items i) in
    let first : c.sum_at.result ≡ cut far = c.sum_at.ensures ∙ ap cut (zero_first _) ∙
    ap (λ xs. cut (sum_by (num beyond) xs)) (c.deref.ensures.value ∙ sym es) in
    let both : c.sum_at-outside.result ≡ cut (far + near) = c.sum_at-outside.ensures ∙
    ap (λ xs. cut (c.sum_at.result + sum_by (num size) xs)) (c.deref-in-loop-i.ensures.value ∙ sym vs)
    ∙ cut_more c.sum_at.result far near first in
    let least : c.min.result ≡ min (num old i) (cut (far + near)) = c.min.ensures ∙ ap (λ m. min m c.sum_at-outside.result) read ∙
    ap (min (num old i)) both in
    record {
      bounds = changed_more made k 0 c.loop-i-test.true new (num old) (num now) c.loop-i.invariant.bounds _
          (λ x ne. get_or-set_other now i x c.min-in-loop-i.result 0 ne)
          (get_or-set_same now i c.min-in-loop-i.result 0 within ∙ c.min-in-loop-i.ensures ∙
          ap (λ m. min (m + (c.args.border - num size i)) (c.args.live - num size i)) least);
      room = length-set now i c.min-in-loop-i.result ∙ room;
    }
  where
    zero_first : (a : ℕ) → 0 + a ≡ a
    zero_first a = omega arith

pub index_mut-requires : goal.index_mut-requires
index_mut-requires g c = lt_of_lt_of_le (c.requires.range c.loop-i.i-index 0 c.loop-i-test.true)
    (le_of_eq (sym (c.loop-i.bound.ok.0 ∙ c.loop-i.invariant.room ∙ c.requires.lengths.1)))

pub bounds-size-i : goal.bounds-size-i
bounds-size-i g c = c.requires.range c.loop-i.i-index 0 c.loop-i-test.true

pub bounds-size-i-in-loop-i : goal.bounds-size-i-in-loop-i
bounds-size-i-in-loop-i g c = c.requires.range c.loop-i.i-index 0 c.loop-i-test.true

pub returns-clause-bounds : goal.returns-clause-bounds
returns-clause-bounds g c = changed_all c.args.made.now c.loop-i.i-index c.loop-i-test.false
    (plain_bound c.args.border c.args.live c.args.lists.now c.args.beyond.now c.args.size.now c.args.bound.now.items)
    (num c.args.bound.now.items) (num c.loop-i.bound.items) c.loop-i.invariant.bounds

pub sum_at-requires : goal.sum_at-requires
sum_at-requires g c = record {
  range = read_below (length c.args.size.now) (length c.args.beyond.now) c.args.lists.now.elements.items
      (get_or c.args.made.now c.loop-i.i-index 0) c.index.result.now c.deref.result.now c.requires.elements
      (c.requires.range c.loop-i.i-index 0 c.loop-i-test.true) c.index.ensures c.deref.ensures.value c.requires.lengths.0;
}

pub sum_at-outside-requires : goal.sum_at-outside-requires
sum_at-outside-requires g c = record {
  range = read_below (length c.args.size.now) (length c.args.size.now) c.args.lists.now.variables.items
      (get_or c.args.made.now c.loop-i.i-index 0) c.index-in-loop-i.result.now c.deref-in-loop-i.result.now c.requires.variables
      (c.requires.range c.loop-i.i-index 0 c.loop-i-test.true) c.index-in-loop-i.ensures c.deref-in-loop-i.ensures.value refl;
}

pub bounds-made-i-index : goal.bounds-made-i-index
bounds-made-i-index g c = c.loop-i-test.true

pub loop-i-smaller : goal.loop-i-smaller
loop-i-smaller g c = falls (length c.args.made.now) c.loop-i.i-index c.loop-i-test.true

pub index-requires : goal.index-requires
index-requires g c = lt_of_lt_of_le (c.requires.range c.loop-i.i-index 0 c.loop-i-test.true)
    (le_of_eq (sym (c.args.lists.now.elements.ok.0 ∙ c.requires.elements.0)))

pub index-requires-in-loop-i : goal.index-requires-in-loop-i
index-requires-in-loop-i g c = lt_of_lt_of_le (c.requires.range c.loop-i.i-index 0 c.loop-i-test.true)
    (le_of_eq (sym (c.args.lists.now.variables.ok.0 ∙ c.requires.variables.0)))

pub index-requires-in-loop-i-2 : goal.index-requires-in-loop-i-2
index-requires-in-loop-i-2 g c = lt_of_lt_of_le (c.requires.range c.loop-i.i-index 0 c.loop-i-test.true)
    (le_of_eq (sym (c.loop-i.bound.ok.0 ∙ c.loop-i.invariant.room ∙ c.requires.lengths.1)))

pub returns-clause-length : goal.returns-clause-length
returns-clause-length g c = c.loop-i.invariant.room
