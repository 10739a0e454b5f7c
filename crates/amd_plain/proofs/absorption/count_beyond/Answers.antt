-- the goals of absorption::count_beyond.
use Rattle.std.proofs.Common.{ℕ, List, ◌≡◌, ◌<◌, ◌∙◌, ap, sym, subst, arith, length, get_or, take}
use Rattle.std.proofs.lemmas.Bool.{cond-true}
use Rattle.std.proofs.lemmas.List.{take_all}
use Rattle.amd_model.specs.Quotient.{has}
use Rattle.amd_plain.specs.Views.{num, list_at, Below}
use Rattle.amd_plain.specs.Rounds.{less, plain_rows_left}
use Rattle.amd_plain.proofs.ListPlaces.{list_read, list_below}
use Rattle.amd_round_laws.proofs.Lists.Taken.{left_next}
use Rattle.std.proofs.Common.{lt_of_lt_of_le, le_of_eq}
use borrow.Author.Count.{falls}
use Rattle.amd_plain.proofs.absorption.count_beyond.Goals as goal

pub loop-i-init : goal.loop-i-init
loop-i-init g c = record {
  size = c.count_borders.ensures.size;
  counted = λ e h. c.count_borders.ensures.counted e ∙ cond-true (has c.args.touched.now e) _ _ h;
}

pub loop-i-preserved : goal.loop-i-preserved
loop-i-preserved g c =
    let k : ℕ = c.loop-i.i-index in let front : List ℕ = c.args.front.now in let here : k < length front = c.loop-i-test.true in
    let was = c.loop-i.invariant in
    let size : List ℕ = c.args.size.now in let elements = c.args.elements.now.items in let x : ℕ = get_or front k 0 in
    let place : x < length elements = (let r = c.requires.front k 0 here in let b = c.requires.elements.0 in omega (arith, r, b)) in
    let list : c.deref.result.now ≡ list_at elements x = c.deref.ensures.value ∙
    sym (list_read elements x c.index.result.now place c.index.ensures) in
    record {
      size = c.take_off.ensures.size ∙ was.size;
      counted = λ e h. c.take_off.ensures.taken e ∙ ap (λ m. less e (num size x) m c.deref.result.now) (was.counted e h)
          ∙ ap (less e (num size x) (plain_rows_left c.args.block.now c.args.whole.now size elements (take k front) e)) list
          ∙ sym (left_next (num c.args.block.now) (num c.args.whole.now) (num size) (list_at elements) front e k here);
    }

pub take_off-requires : goal.take_off-requires
take_off-requires g c =
    let k : ℕ = c.loop-i.i-index in let front : List ℕ = c.args.front.now in let here : k < length front = c.loop-i-test.true in
    let elements = c.args.elements.now.items in let x : ℕ = get_or front k 0 in let n : ℕ = length c.args.size.now in
    let place : x < length elements = (let r = c.requires.front k 0 here in let b = c.requires.elements.0 in omega (arith, r, b)) in
    let list : list_at elements x ≡ c.deref.result.now = list_read elements x c.index.result.now place c.index.ensures ∙
    sym c.deref.ensures.value in
    let room : n ≡ length c.loop-i.beyond.items = sym (c.loop-i.invariant.size ∙ c.requires.lengths.2) in
    record { range = subst (λ m. Below m c.deref.result.now) room (subst (Below n) list (list_below n elements c.requires.elements x)) }

pub returns-clause-counted : goal.returns-clause-counted
returns-clause-counted g c = λ e h. c.loop-i.invariant.counted e h
    ∙ ap (λ xs. plain_rows_left c.args.block.now c.args.whole.now c.args.size.now c.args.elements.now.items xs e)
    (take_all c.loop-i.i-index c.args.front.now c.loop-i-test.false)

pub bounds-size-i : goal.bounds-size-i
bounds-size-i g c = c.requires.front c.loop-i.i-index 0 c.loop-i-test.true

pub bounds-front-i-index : goal.bounds-front-i-index
bounds-front-i-index g c = c.loop-i-test.true

pub loop-i-smaller : goal.loop-i-smaller
loop-i-smaller g c = falls (length c.args.front.now) c.loop-i.i-index c.loop-i-test.true

pub count_borders-requires-clause-lengths : goal.count_borders-requires-clause-lengths
count_borders-requires-clause-lengths g c = (
  c.requires.lengths.1 ∙ sym c.requires.lengths.0,
  c.requires.lengths.2 ∙ sym c.requires.lengths.0,
)

pub count_borders-requires-clause-range : goal.count_borders-requires-clause-range
count_borders-requires-clause-range g c = subst (λ n. Below n c.args.touched.now) (sym c.requires.lengths.0) c.requires.range

pub index-requires : goal.index-requires
index-requires g c = lt_of_lt_of_le (c.requires.front c.loop-i.i-index 0 c.loop-i-test.true)
    (le_of_eq (sym (c.args.elements.now.ok.0 ∙ c.requires.elements.0)))

pub returns-clause-size : goal.returns-clause-size
returns-clause-size g c = c.loop-i.invariant.size
