-- the goals of absorption::take_off.
use Rattle.std.proofs.Common.{ℕ, List, ◌≡◌, ◌<◌, ◌-◌, ◌∙◌, ap, refl, arith, length, get_or, set, length-set}
use Rattle.std.proofs.lemmas.List.{get_or_read, take_all}
use Rattle.amd_plain.specs.Views.{num}
use Rattle.amd_plain.specs.Rounds.{less}
use Rattle.amd_plain.proofs.Taken.{less_written}
use Rattle.std.proofs.Common.{lt_of_lt_of_le, le_of_eq, sym}
use borrow.Author.Count.{falls}
use Rattle.amd_plain.proofs.absorption.take_off.Goals as goal

pub loop-e-init : goal.loop-e-init
loop-e-init g c = record { size = refl; taken = λ e. refl }

pub loop-e-preserved : goal.loop-e-preserved
loop-e-preserved g c =
    let k : ℕ = c.loop-e.e-index in let list : List ℕ = c.args.elements.now in let now : List ℕ = c.loop-e.beyond.items in
    let here : k < length list = c.loop-e-test.true in
    let was = c.loop-e.invariant in let x : ℕ = get_or list k 0 in
    let small : x < length now = (let r = c.requires.range k 0 here in let s = was.size in omega (arith, r, s)) in
    let left : c.saturating_sub.result ≡ num now x - c.args.rows = c.saturating_sub.ensures ∙
    ap (λ m. m - c.args.rows) (get_or_read now x c.index.result.now small c.index.ensures 0) in
    record {
      size = length-set now x c.saturating_sub.result ∙ was.size;
      taken = λ e. ap (λ m. num (set now x m) e) left ∙ less_written c.args.rows list k (num c.args.beyond.now.items) now here small
          was.taken e;
    }

pub returns-clause-taken : goal.returns-clause-taken
returns-clause-taken g c = λ e. c.loop-e.invariant.taken e ∙
    ap (less e c.args.rows (num c.args.beyond.now.items e)) (take_all c.loop-e.e-index c.args.elements.now c.loop-e-test.false)

pub bounds-elements-e-index : goal.bounds-elements-e-index
bounds-elements-e-index g c = c.loop-e-test.true

pub loop-e-smaller : goal.loop-e-smaller
loop-e-smaller g c = falls (length c.args.elements.now) c.loop-e.e-index c.loop-e-test.true

pub index-requires : goal.index-requires
index-requires g c = lt_of_lt_of_le (c.requires.range c.loop-e.e-index 0 c.loop-e-test.true)
    (le_of_eq (sym (c.loop-e.beyond.ok.0 ∙ c.loop-e.invariant.size)))

pub index_mut-requires : goal.index_mut-requires
index_mut-requires g c = lt_of_lt_of_le (c.requires.range c.loop-e.e-index 0 c.loop-e-test.true)
    (le_of_eq (sym (c.loop-e.beyond.ok.0 ∙ c.loop-e.invariant.size)))

pub returns-clause-size : goal.returns-clause-size
returns-clause-size g c = c.loop-e.invariant.size
