-- the goals of absorption::adopt.
use Rattle.std.proofs.Common.{ℕ, Option, Some, None, List, ◌≡◌, ◌<◌, ◌∙◌, ap, refl, arith, length, get_or, set, length-set}
use Rattle.amd_plain.specs.Views.{mark_at, some_at}
use Rattle.amd_model.specs.Quotient.{has}
use Rattle.amd_plain.proofs.Kept.{set_passing, set_none}
use Rattle.std.proofs.Common.{lt_of_lt_of_le, le_of_eq, sym}
use Rattle.std.proofs.Common.{cond, ◌&&◌}
use Rattle.std.proofs.lemmas.List.{take_all}
use borrow.Author.Count.{falls}
use Rattle.amd_plain.proofs.absorption.adopt.Goals as goal
use Rattle.amd_plain.proofs.absorption.adopt.Goals.{then-taken-e, else-taken-e}

pub loop-e-init : goal.loop-e-init
unfolding has
loop-e-init g c = record { size = refl; adopted = λ e. refl }

pub loop-e-preserved : goal.loop-e-preserved
loop-e-preserved g c =
    let k : ℕ = c.loop-e.e-index in let list : List ℕ = c.args.list.now in let here : k < length list = c.loop-e-test.true in
    let was = c.loop-e.invariant in let now : List (Option ℕ) = c.loop-e.parent.items in
    let small : get_or list k 0 < length now = (let a = c.requires.range k 0 here in let b = c.requires.length in let e = was.size in
    omega (arith, a, b, e)) in
    let written : Option ℕ = Some c.args.pivot in
    elim c.if-taken-e.branch [
      | then-taken-e w ↦ (let e : c.if-taken-e.parent.items ≡ set now (get_or list k 0) written = ap (λ v. v.items) w.parent-is in record {
        size = rw e (length-set now (get_or list k 0) written ∙ was.size);
        adopted = rw e (set_passing (λ e. written) (some_at c.args.parent.now.items) (mark_at c.args.taken.now) list k now None written here
            small w.if-taken-e.true refl was.adopted);
      })
      | else-taken-e w ↦ record {
        size = ap (λ v. length v.items) w.parent-is ∙ was.size;
        adopted = rw w.parent-is (set_none (λ e. written) (some_at c.args.parent.now.items) (mark_at c.args.taken.now)
            list k (some_at now) here
            w.if-taken-e.false was.adopted);
      }
    ]

pub bounds-list-e-index : goal.bounds-list-e-index
bounds-list-e-index g c = c.loop-e-test.true

pub loop-e-smaller : goal.loop-e-smaller
loop-e-smaller g c = falls (length c.args.list.now) c.loop-e.e-index c.loop-e-test.true

pub bounds-taken-e : goal.bounds-taken-e
bounds-taken-e g c = c.requires.range c.loop-e.e-index 0 c.loop-e-test.true

pub index_mut-requires : goal.index_mut-requires
index_mut-requires g c = lt_of_lt_of_le (c.requires.range c.loop-e.e-index 0 c.loop-e-test.true)
    (le_of_eq (sym (c.loop-e.parent.ok.0 ∙ c.loop-e.invariant.size ∙ c.requires.length)))

pub returns-clause-size : goal.returns-clause-size
returns-clause-size g c = c.loop-e.invariant.size

pub returns-clause-adopted : goal.returns-clause-adopted
returns-clause-adopted g c e = c.loop-e.invariant.adopted e
    ∙ ap (λ xs. cond (has xs e && mark_at c.args.taken.now e) (Some c.args.pivot) (some_at c.args.parent.now.items e))
    (take_all c.loop-e.e-index c.args.list.now c.loop-e-test.false)
