-- the goals of absorption::retire.
use Rattle.std.proofs.Common.{ℕ, Bool, Option, Some, None, List, ◌≡◌, ◌<◌, ◌∙◌, ap, refl, sym, arith, length, get_or, set, length-set}
use Rattle.amd_plain.specs.Views.{num, some_at}
use Rattle.amd_plain.specs.Rounds.{plain_mass}
use Rattle.amd_model.specs.Quotient.{has}
use Rattle.amd_plain.proofs.Kept.{set_passing, set_none}
use Rattle.std.proofs.Common.{◌&&◌, cond}
use Rattle.std.proofs.lemmas.List.{take_all}
use Rattle.std.proofs.Common.{lt_of_lt_of_le, le_of_eq}
use borrow.Author.Count.{falls}
use Rattle.amd_plain.proofs.absorption.retire.Goals as goal
use Rattle.amd_plain.proofs.absorption.retire.Goals.{then-keeps_nothing, else-keeps_nothing}

pub loop-i-init : goal.loop-i-init
unfolding has
loop-i-init g c = record { sizes = λ e. refl; links = λ e. refl; size = refl; link = refl }

pub loop-i-preserved : goal.loop-i-preserved
loop-i-preserved g c =
    let k : ℕ = c.loop-i.i-index in let front : List ℕ = c.args.front.now in let here : k < length front = c.loop-i-test.true in
    let was = c.loop-i.invariant in let x : ℕ = get_or front k 0 in let range = c.requires.range k 0 here in
    let size : List ℕ = c.loop-i.size.items in let link : List (Option ℕ) = c.loop-i.link.items in
    let small : x < length size = (let a = was.size in omega (arith, range, a)) in
    let room : x < length link = (let a = was.link in let b = c.requires.lengths in omega (arith, range, a, b)) in
    let none : ℕ → Bool = plain_mass c.args.lists.now.elements.items c.args.lists.now.variables.items in
    let written : Option ℕ = Some c.args.pivot in
    elim c.if-keeps_nothing.branch [
      | then-keeps_nothing w ↦ (
          let a : c.if-keeps_nothing.size.items ≡ set size x 0 = ap (λ v. v.items) w.size-is in
          let b : c.if-keeps_nothing.link.items ≡ set link x written = ap (λ v. v.items) w.link-is in
          let pass = sym c.keeps_nothing.ensures ∙ w.if-keeps_nothing.true in
          record {
            sizes = rw a (set_passing (λ e. 0) (num c.args.size.now.items) none front k size 0 0 here small pass refl was.sizes);
            links = rw b (set_passing (λ e. written) (some_at c.args.link.now.items) none front k link None written here room pass refl
                was.links);
            size = rw a (length-set size x 0 ∙ was.size);
            link = rw b (length-set link x written ∙ was.link);
          })
      | else-keeps_nothing w ↦ (
          let fail = sym c.keeps_nothing.ensures ∙ w.if-keeps_nothing.false in
          record {
            sizes = rw w.size-is (set_none (λ e. 0) (num c.args.size.now.items) none front k (num size) here fail was.sizes);
            links = rw w.link-is (set_none (λ e. written) (some_at c.args.link.now.items) none front k (some_at link) here fail was.links);
            size = ap (λ v. length v.items) w.size-is ∙ was.size;
            link = ap (λ v. length v.items) w.link-is ∙ was.link;
          })
    ]

pub returns-clause-sizes : goal.returns-clause-sizes
returns-clause-sizes g c x = c.loop-i.invariant.sizes x
    ∙ ap (λ xs. cond (has xs x && plain_mass c.args.lists.now.elements.items c.args.lists.now.variables.items x)
    0 (num c.args.size.now.items x))
    (take_all c.loop-i.i-index c.args.front.now c.loop-i-test.false)

pub returns-clause-links : goal.returns-clause-links
returns-clause-links g c x = c.loop-i.invariant.links x
    ∙ ap (λ xs. cond (has xs x && plain_mass c.args.lists.now.elements.items c.args.lists.now.variables.items x) (Some c.args.pivot)
    (some_at c.args.link.now.items x)) (take_all c.loop-i.i-index c.args.front.now c.loop-i-test.false)

pub bounds-front-i-index : goal.bounds-front-i-index
bounds-front-i-index g c = c.loop-i-test.true

pub loop-i-smaller : goal.loop-i-smaller
loop-i-smaller g c = falls (length c.args.front.now) c.loop-i.i-index c.loop-i-test.true

pub keeps_nothing-requires-clause-elements : goal.keeps_nothing-requires-clause-elements
keeps_nothing-requires-clause-elements g c = lt_of_lt_of_le (c.requires.range c.loop-i.i-index 0 c.loop-i-test.true)
    (le_of_eq (sym (c.requires.lengths.0)))

pub keeps_nothing-requires-clause-variables : goal.keeps_nothing-requires-clause-variables
keeps_nothing-requires-clause-variables g c = lt_of_lt_of_le (c.requires.range c.loop-i.i-index 0 c.loop-i-test.true)
    (le_of_eq (sym (c.requires.lengths.1)))

pub index_mut-requires : goal.index_mut-requires
index_mut-requires g c = lt_of_lt_of_le (c.requires.range c.loop-i.i-index 0 c.loop-i-test.true)
    (le_of_eq (sym (c.loop-i.size.ok.0 ∙ c.loop-i.invariant.size)))

pub index_mut-requires-then-keeps_nothing : goal.index_mut-requires-then-keeps_nothing
index_mut-requires-then-keeps_nothing g c = lt_of_lt_of_le (c.requires.range c.loop-i.i-index 0 c.loop-i-test.true)
    (le_of_eq (sym (c.loop-i.link.ok.0 ∙ c.loop-i.invariant.link ∙ c.requires.lengths.2)))

pub returns-clause-lengths : goal.returns-clause-lengths
returns-clause-lengths g c = (c.loop-i.invariant.size, c.loop-i.invariant.link)
