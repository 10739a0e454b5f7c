-- the goals of merging::join.
use Rattle.std.proofs.Common.{◌≡◌, ◌≢◌, ◌<◌, ◌+◌, ℕ, Bool, true, false, List, length, get_or, set, arith, ap, sym, refl, subst, ◌∙◌, ◌&&◌}
use Rattle.std.proofs.Common.{not, cond, Option, None, Some}
use Rattle.std.specs.Prelude.{◌==◌}
use Rattle.std.proofs.lemmas.Bool.{eq-eqb, ne_eqb, cond-true, cond-false, not_from_true, not_from_false}
use Rattle.std.proofs.lemmas.Grind.{get_or_default_zero}
use Rattle.std.proofs.lemmas.List.{length-set, get_or-set_same, get_or-set_other}
use Rattle.amd_model.specs.Quotient.{has}
use Rattle.amd_plain.specs.Views.{num, some_at}
use Rattle.amd_plain.proofs.Kept.{changed_more, changed_none, unchanged, changed_all}
use Rattle.amd_round_laws.proofs.Lists.Named.{has_at, below_gives}
use Rattle.amd_plain.proofs.Joins.{Merged, merged_none, merged_stays, merged_fits, merged_moves, merged_all}
use Rattle.std.proofs.Common.{lt_of_lt_of_le, le_of_eq}
use borrow.Author.Count.{falls}
use Rattle.amd_plain.proofs.merging.join.Goals as goal
use Rattle.amd_plain.proofs.merging.join.Goals.{then-r-i, else-r-i}

-- the link of a class that was merged
abbrev new_link : (into : List ℕ) (old : List (Option ℕ)) → ℕ → Option ℕ
new_link into old x = cond (not (num into x == x)) (Some (num into x)) (some_at old x)

pub loop-i-init : goal.loop-i-init
loop-i-init g c = record {
  sizes = merged_none c.args.rest.now (num c.args.into.now) (num c.args.size.now.items);
  links = changed_none c.args.rest.now (new_link c.args.into.now c.args.link.now.items) (some_at c.args.link.now.items);
  size_room = refl;
  link_room = refl;
}

pub index_mut-requires : goal.index_mut-requires
index_mut-requires g c =
    let rest = c.args.rest.now in
    let i : ℕ = get_or rest c.loop-i.i-index 0 in
    let target = c.requires.into i (has_at rest c.loop-i.i-index 0 c.loop-i-test.true) in
    let small = below_gives (length c.args.size.now.items) rest c.requires.range (num c.args.into.now i) target.0 in
    let room = c.loop-i.invariant.size_room in
    omega (arith, small, room, c.loop-i.size.ok.0)

pub overflow_add-index_mut : goal.overflow_add-index_mut
overflow_add-index_mut g c =
    let rest = c.args.rest.now in
    let k = c.loop-i.i-index in
    let into = num c.args.into.now in
    let size = c.loop-i.size.items in
    let i : ℕ = get_or rest k 0 in
    let target = c.requires.into i (has_at rest k 0 c.loop-i-test.true) in
    let room = c.loop-i.invariant.size_room in
    let i_small = c.requires.range k 0 c.loop-i-test.true in
    let r_small = below_gives (length c.args.size.now.items) rest c.requires.range (into i) target.0 in
    let at_i = get_or_default_zero size i c.index.result.now (omega (arith, i_small, room)) in
    let at_r = get_or_default_zero size (into i) c.index_mut.result.now (omega (arith, r_small, room)) in
    let read_i = c.index.ensures in
    let read_r = c.index_mut.ensures.value in
    let most = merged_fits rest into (num c.args.size.now.items) k c.loop-i-test.true (num size) c.loop-i.invariant.sizes c.requires.once
    c.if-r-i.true target in
    let fits = c.requires.fits in
    record { fits = omega (arith, at_i, at_r, read_i, read_r, most, fits) }

pub loop-i-preserved : goal.loop-i-preserved
loop-i-preserved g c =
    let rest = c.args.rest.now in
    let k = c.loop-i.i-index in
    let test = c.loop-i-test.true in
    let into = num c.args.into.now in
    let old = num c.args.size.now.items in
    let size = c.loop-i.size.items in
    let link = c.loop-i.link.items in
    let i : ℕ = get_or rest k 0 in
    let target = c.requires.into i (has_at rest k 0 test) in
    let inv = c.loop-i.invariant in
    let room = inv.size_room in
    let link_room = inv.link_room in
    let lengths = c.requires.lengths.1 in
    let i_small = c.requires.range k 0 test in
    let r_small = below_gives (length c.args.size.now.items) rest c.requires.range (into i) target.0 in
    let i_in : i < length size = lt_of_lt_of_le i_small (le_of_eq (sym room)) in
    let r_in : into i < length size = lt_of_lt_of_le r_small (le_of_eq (sym room)) in
    let l_in : i < length link = lt_of_lt_of_le i_small (le_of_eq (sym (link_room ∙ lengths))) in
    let new = new_link c.args.into.now c.args.link.now.items in
    let olds = some_at c.args.link.now.items in
    elim c.if-r-i.branch [
      | then-r-i w ↦ (
          let sum : ℕ = w.index_mut.result.now + w.index.result.now in
          let ne : into i ≢ i = w.if-r-i.true in
          let at_i = get_or_default_zero size i w.index.result.now i_in in
          let at_r = get_or_default_zero size (into i) w.index_mut.result.now r_in in
          let read_i = w.index.ensures in
          let read_r = w.index_mut.ensures.value in
          let sum_is : sum ≡ num size (into i) + num size i = omega (arith, at_i, at_r, read_i, read_r) in
          let one = set size (into i) sum in
          let one_in : i < length one = lt_of_lt_of_le i_in (le_of_eq (sym (length-set size (into i) sum))) in
          let sizes : Merged rest into old (k + 1) (num (set one i 0)) =
          merged_moves rest into old k test (num size) inv.sizes c.requires.once ne target (num (set one i 0))
          (get_or-set_same one i 0 0 one_in)
          (get_or-set_other one i (into i) 0 0 ne ∙ get_or-set_same size (into i) sum 0 r_in ∙ sum_is)
          (λ x a b. get_or-set_other one i x 0 0 a ∙ get_or-set_other size (into i) x sum 0 b) in
          let links = changed_more rest k 0 test new olds (some_at link) inv.links (some_at (set link i (Some (into i))))
          (λ x a. get_or-set_other link i x (Some (into i)) None a)
          (get_or-set_same link i (Some (into i)) None l_in ∙
          sym (cond-true (not (into i == i)) (Some (into i)) (olds i) (not_from_false (into i == i) (ne_eqb (into i) i ne)))) in
          record {
            sizes = subst (λ xs. Merged rest into old (k + 1) (num xs)) (sym (ap (λ v. v.items) w.size-is)) sizes;
            links = rw (ap (λ v. v.items) w.link-is) links;
            size_room = ap (λ v. length v.items) w.size-is ∙ length-set one i 0 ∙ length-set size (into i) sum ∙ room;
            link_room = ap (λ v. length v.items) w.link-is ∙ length-set link i (Some (into i)) ∙ link_room;
          })
      | else-r-i w ↦ (
          let self : into i ≡ i = w.if-r-i.false in
          let links = changed_more rest k 0 test new olds (some_at link) inv.links (some_at link)
          (λ x a. refl)
          (unchanged rest k 0 test new olds (some_at link) inv.links c.requires.once ∙
          sym (cond-false (not (into i == i)) (Some (into i)) (olds i) (not_from_true (into i == i) (eq-eqb (into i) i self)))) in
          record {
            sizes = subst (λ xs. Merged rest into old (k + 1) (num xs)) (sym (ap (λ v. v.items) w.size-is))
                (merged_stays rest into old k test (num size) inv.sizes self);
            links = rw (ap (λ v. v.items) w.link-is) links;
            size_room = ap (λ v. length v.items) w.size-is ∙ room;
            link_room = ap (λ v. length v.items) w.link-is ∙ link_room;
          })
    ]

pub returns-clause-sizes : goal.returns-clause-sizes
returns-clause-sizes g c = merged_all c.args.rest.now (num c.args.into.now) (num c.args.size.now.items) c.loop-i.i-index c.loop-i-test.false
    c.requires.once (num c.loop-i.size.items) c.loop-i.invariant.sizes

pub returns-clause-links : goal.returns-clause-links
returns-clause-links g c = λ x.
    changed_all c.args.rest.now c.loop-i.i-index c.loop-i-test.false (new_link c.args.into.now c.args.link.now.items)
    (some_at c.args.link.now.items) (some_at c.loop-i.link.items) c.loop-i.invariant.links x
    ∙ both (has c.args.rest.now x) (not (num c.args.into.now x == x)) _ _
  where
    both : (a b : Bool) (s o : Option ℕ) → cond a (cond b s o) o ≡ cond (a && b) s o
    both true b s o = refl
    both false b s o = refl

pub bounds-rest-i-index : goal.bounds-rest-i-index
bounds-rest-i-index g c = c.loop-i-test.true

pub bounds-into-i : goal.bounds-into-i
bounds-into-i g c = lt_of_lt_of_le (c.requires.range c.loop-i.i-index 0 c.loop-i-test.true)
    (le_of_eq (sym (c.requires.lengths.0)))

pub index-requires : goal.index-requires
index-requires g c = lt_of_lt_of_le (c.requires.range c.loop-i.i-index 0 c.loop-i-test.true)
    (le_of_eq (sym (c.loop-i.size.ok.0 ∙ c.loop-i.invariant.size_room)))

pub loop-i-smaller : goal.loop-i-smaller
loop-i-smaller g c = falls (length c.args.rest.now) c.loop-i.i-index c.loop-i-test.true

pub returns-clause-lengths : goal.returns-clause-lengths
returns-clause-lengths g c = (c.loop-i.invariant.size_room, c.loop-i.invariant.link_room)
