-- the goals of absorption::spare.
use Rattle.std.proofs.Common.{ℕ, Bool, false, List, ◌≡◌, ◌<◌, ◌∙◌, ap, refl, sym, arith, length, get_or, set, length-set, not, ◌&&◌, nat_eq}
use Rattle.std.proofs.lemmas.Bool.{and_left, not_from_false, not_from_true}
use Rattle.amd_plain.specs.Views.{mark_at, num}
use Rattle.amd_model.specs.Quotient.{has}
use Rattle.amd_plain.proofs.Kept.{set_passing, set_none}
use Rattle.std.proofs.Common.{true, cond}
use Rattle.std.proofs.Math.Bool.{and-true, and-false}
use Rattle.std.proofs.lemmas.List.{take_all}
use Rattle.std.proofs.Common.{lt_of_lt_of_le, le_of_eq}
use borrow.Author.Count.{falls}
use Rattle.amd_plain.proofs.absorption.spare.Goals as goal
use Rattle.amd_plain.proofs.absorption.spare.Goals.{then-aggressive, else-aggressive, then-not-beyond-e, else-not-beyond-e}

pub loop-e-init : goal.loop-e-init
unfolding has
loop-e-init g c = record { size = refl; spared = λ e. refl }

pub loop-e-preserved : goal.loop-e-preserved
loop-e-preserved g c =
    let k : ℕ = c.loop-e.e-index in let list : List ℕ = c.args.touched.now in let here : k < length list = c.loop-e-test.true in
    let was = c.loop-e.invariant in let now : List Bool = c.loop-e.taken.items in
    let small : get_or list k 0 < length now = (let a = c.requires.range k 0 here in let b = c.requires.length in let e = was.size in
    omega (arith, a, b, e)) in
    let whole : ℕ → Bool = λ e. c.args.aggressive && nat_eq (num c.args.beyond.now e) 0 in
    let value : whole (get_or list k 0) ≡ c.if-aggressive.value = elim c.if-aggressive.branch [
      | then-aggressive w ↦ ap (λ b. b && nat_eq (num c.args.beyond.now (get_or list k 0)) 0) w.if-aggressive.true ∙ sym w.value-is
      | else-aggressive w ↦ and_left c.args.aggressive (nat_eq (num c.args.beyond.now (get_or list k 0)) 0) w.if-aggressive.false ∙
          sym w.if-aggressive.false ∙ sym w.value-is
    ] in
    elim c.if-not-beyond-e.branch [
      | then-not-beyond-e w ↦ (let e : c.if-not-beyond-e.taken.items ≡ set now (get_or list k 0) false = ap (λ v. v.items) w.taken-is in
          record {
            size = rw e (length-set now (get_or list k 0) false ∙ was.size);
            spared = rw e (set_passing (λ e. false) (mark_at c.args.taken.now.items) (λ e. not (whole e)) list k now false false here small
                (not_from_false (whole (get_or list k 0)) (value ∙ w.if-not-beyond-e.true)) refl was.spared);
          })
      | else-not-beyond-e w ↦ record {
        size = ap (λ v. length v.items) w.taken-is ∙ was.size;
        spared = rw w.taken-is (set_none (λ e. false) (mark_at c.args.taken.now.items) (λ e. not (whole e)) list k (mark_at now) here
            (not_from_true (whole (get_or list k 0)) (value ∙ w.if-not-beyond-e.false)) was.spared);
      }
    ]

-- what is cleared where a test holds
cleared_where : (test was : Bool) → cond test false was ≡ (was && not test)
cleared_where true was = sym (and-false was)
cleared_where false was = sym (and-true was)

pub returns-clause-spared : goal.returns-clause-spared
returns-clause-spared g c e = let kept : Bool = not (c.args.aggressive && nat_eq (num c.args.beyond.now e) 0) in
    c.loop-e.invariant.spared e ∙ ap (λ xs. cond (has xs e && kept) false (mark_at c.args.taken.now.items e))
    (take_all c.loop-e.e-index c.args.touched.now c.loop-e-test.false)
    ∙ cleared_where (has c.args.touched.now e && kept) (mark_at c.args.taken.now.items e)

pub bounds-touched-e-index : goal.bounds-touched-e-index
bounds-touched-e-index g c = c.loop-e-test.true

pub loop-e-smaller : goal.loop-e-smaller
loop-e-smaller g c = falls (length c.args.touched.now) c.loop-e.e-index c.loop-e-test.true

pub bounds-beyond-e : goal.bounds-beyond-e
bounds-beyond-e g c = c.requires.range c.loop-e.e-index 0 c.loop-e-test.true

pub index_mut-requires : goal.index_mut-requires
index_mut-requires g c = lt_of_lt_of_le (c.requires.range c.loop-e.e-index 0 c.loop-e-test.true)
    (le_of_eq (sym (c.loop-e.taken.ok.0 ∙ c.loop-e.invariant.size ∙ sym c.requires.length)))

pub returns-clause-size : goal.returns-clause-size
returns-clause-size g c = c.loop-e.invariant.size
