-- the goals of absorption::count_borders.
use Rattle.std.proofs.Common.{ℕ, List, ◌<◌, ◌-◌, ◌∙◌, refl, arith, length, get_or, length-set}
use Rattle.amd_model.specs.Quotient.{has}
use Rattle.amd_plain.specs.Views.{num}
use Rattle.amd_plain.proofs.Kept.{set_next}
use Rattle.amd_plain.proofs.Kept.{changed_all}
use Rattle.std.proofs.Common.{lt_of_lt_of_le, le_of_eq, sym}
use borrow.Author.Count.{falls}
use Rattle.amd_plain.proofs.absorption.count_borders.Goals as goal

pub loop-e-init : goal.loop-e-init
unfolding has
loop-e-init g c = record { size = refl; counted = λ e. refl }

pub loop-e-preserved : goal.loop-e-preserved
loop-e-preserved g c =
    let k : ℕ = c.loop-e.e-index in let list : List ℕ = c.args.touched.now in let now : List ℕ = c.loop-e.beyond.items in
    let here : k < length list = c.loop-e-test.true in
    let was = c.loop-e.invariant in let x : ℕ = get_or list k 0 in let r = c.requires.range k 0 here in
    let small : x < length now = (let a = c.requires.lengths.1 in let s = was.size in omega (arith, r, a, s)) in
    record {
      size = length-set now x c.saturating_sub.result ∙ was.size;
      counted = set_next (λ e. num c.args.whole.now e - num c.args.block.now e) (num c.args.beyond.now.items) list k now 0
          c.saturating_sub.result here small c.saturating_sub.ensures was.counted;
    }

pub returns-clause-counted : goal.returns-clause-counted
returns-clause-counted g c = changed_all c.args.touched.now c.loop-e.e-index c.loop-e-test.false
    (λ e. num c.args.whole.now e - num c.args.block.now e) (num c.args.beyond.now.items) (num c.loop-e.beyond.items)
    c.loop-e.invariant.counted

pub bounds-touched-e-index : goal.bounds-touched-e-index
bounds-touched-e-index g c = c.loop-e-test.true

pub loop-e-smaller : goal.loop-e-smaller
loop-e-smaller g c = falls (length c.args.touched.now) c.loop-e.e-index c.loop-e-test.true

pub bounds-block-e : goal.bounds-block-e
bounds-block-e g c = c.requires.range c.loop-e.e-index 0 c.loop-e-test.true

pub bounds-whole-e : goal.bounds-whole-e
bounds-whole-e g c = lt_of_lt_of_le (c.requires.range c.loop-e.e-index 0 c.loop-e-test.true)
    (le_of_eq (sym (c.requires.lengths.0)))

pub index_mut-requires : goal.index_mut-requires
index_mut-requires g c = lt_of_lt_of_le (c.requires.range c.loop-e.e-index 0 c.loop-e-test.true)
    (le_of_eq (sym (c.loop-e.beyond.ok.0 ∙ c.loop-e.invariant.size ∙ c.requires.lengths.1)))

pub returns-clause-size : goal.returns-clause-size
returns-clause-size g c = c.loop-e.invariant.size
