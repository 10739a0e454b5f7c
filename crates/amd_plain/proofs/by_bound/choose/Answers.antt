use Rattle.std.proofs.Common.{ℕ, [], ◌≡◌, ◌<◌, ◌∙◌, inl, inr, sym, ap, arith, subst, length, set}
use Rattle.std.proofs.lemmas.Bool.{cases_eq}
use Rattle.amd_plain.specs.Views.{list_at, Below}
use Rattle.amd_plain.specs.ListsByBound.{live_in}
use Rattle.amd_plain.proofs.ListPlaces.{list_read, list_below, list_set_same, list_set_other, lists_set}
use Rattle.amd_plain.proofs.ListsByBound.{least_place, popped_below, popped_same, next_some}
use Rattle.amd_plain.proofs.by_bound.choose.Goals as goal

pub index_mut-requires : goal.index_mut-requires
index_mut-requires g c =
    let was = c.bounds.invariant in
    let place = least_place c.args.size.now c.args.bound.now c.args.lists.now.items c.bounds.least was.some in
    omega (arith, place, c.requires.range.0, was.range.0, c.bounds.lists.ok.0)

pub last_placed-requires-clause-range : goal.last_placed-requires-clause-range
last_placed-requires-clause-range g c =
    let n : ℕ = length c.args.size.now in
    let was = c.bounds.invariant in
    let lists = c.bounds.lists.items in
    let place = least_place c.args.size.now c.args.bound.now c.args.lists.now.items c.bounds.least was.some in
    let room : c.bounds.least < length lists = omega (arith, place, c.requires.range.0, was.range.0) in
    subst (Below n) (list_read lists c.bounds.least c.index_mut.result.now room c.index_mut.ensures.value)
    (list_below n lists was.range c.bounds.least)

pub overflow_add-least : goal.overflow_add-least
overflow_add-least g c =
    let was = c.bounds.invariant in
    let place = least_place c.args.size.now c.args.bound.now c.args.lists.now.items c.bounds.least was.some in
    omega (arith, place, c.args.lists.now.ok.0)

pub bounds-smaller : goal.bounds-smaller
bounds-smaller g c =
    let was = c.bounds.invariant in
    let place = least_place c.args.size.now c.args.bound.now c.args.lists.now.items c.bounds.least was.some in
    omega (arith, place, c.requires.range.0)

pub returns-in-Some-clause-range : goal.returns-in-Some-clause-range
returns-in-Some-clause-range g c =
    let n : ℕ = length c.args.size.now in
    let was = c.bounds.invariant in
    let lists = c.bounds.lists.items in
    let least : ℕ = c.bounds.least in
    let place = least_place c.args.size.now c.args.bound.now c.args.lists.now.items c.bounds.least was.some in
    let room : least < length lists = omega (arith, place, c.requires.range.0, was.range.0) in
    let below : Below n c.index_mut.result.now.items = subst (Below n)
    (list_read lists least c.index_mut.result.now room c.index_mut.ensures.value) (list_below n lists was.range least) in
    lists_set n lists least c.last_placed.new.list was.range
    (popped_below n c.args.size.now c.args.bound.now least c.index_mut.result.now.items c.last_placed.new.list.items c.last_placed.result
    c.last_placed.ensures.popped below)

pub returns-in-Some-clause-chosen : goal.returns-in-Some-clause-chosen
returns-in-Some-clause-chosen g c =
    let was = c.bounds.invariant in
    let lists = c.bounds.lists.items in
    let least : ℕ = c.bounds.least in
    let new = c.last_placed.new.list in
    let place = least_place c.args.size.now c.args.bound.now c.args.lists.now.items c.bounds.least was.some in
    let room : least < length lists = omega (arith, place, c.requires.range.0, was.range.0) in
    let old : list_at c.args.lists.now.items least ≡ c.index_mut.result.now.items = sym (was.others least (inr (omega arith))) ∙
    list_read lists least c.index_mut.result.now room c.index_mut.ensures.value in
    record {
      rise = was.rise;
      lower = λ b l h. (list_set_other lists least new b (λ e. omega (arith, e, h)) ∙ (was.lower b l h).0, (was.lower b l h).1);
      popped = popped_same c.args.size.now c.args.bound.now least c.index_mut.result.now.items new.items
          (list_at c.args.lists.now.items least) (list_at (set lists least new) least) c.in-Some.i
          old (list_set_same lists least new room) c.in-Some.ensures.popped;
      others = λ b h. elim h [
        | inl k ↦ list_set_other lists least new b (λ e. omega (arith, e, k, was.rise)) ∙ was.others b (inl k)
        | inr k ↦ list_set_other lists least new b (λ e. omega (arith, e, k)) ∙ was.others b (inr (omega (arith, k)))
      ];
    }

pub bounds-preserved : goal.bounds-preserved
bounds-preserved g c =
    let n : ℕ = length c.args.size.now in
    let was = c.bounds.invariant in
    let lists = c.bounds.lists.items in
    let least : ℕ = c.bounds.least in
    let new = c.last_placed.new.list in
    let place = least_place c.args.size.now c.args.bound.now c.args.lists.now.items c.bounds.least was.some in
    let room : least < length lists = omega (arith, place, c.requires.range.0, was.range.0) in
    let read = list_read lists least c.index_mut.result.now room c.index_mut.ensures.value in
    let old : list_at c.args.lists.now.items least ≡ c.index_mut.result.now.items = sym (was.others least (inr (omega arith))) ∙ read in
    let none : (new.items ≡ []) × (live_in c.args.size.now c.args.bound.now least c.index_mut.result.now.items ≡ []) =
    c.in_default.ensures.popped in
    let none_old : live_in c.args.size.now c.args.bound.now least (list_at c.args.lists.now.items least) ≡ [] =
    ap (live_in c.args.size.now c.args.bound.now least) old ∙ none.1 in
    let rise = was.rise in
    record {
      range = lists_set n lists least new was.range (popped_below n c.args.size.now c.args.bound.now least c.index_mut.result.now.items
          new.items c.last_placed.result c.last_placed.ensures.popped
          (subst (Below n) read (list_below n lists was.range least)));
      rise = omega (arith, rise);
      some = next_some c.args.size.now c.args.bound.now c.args.lists.now.items least none_old was.some;
      lower = λ b l h. elim (cases_eq b least) [
        | inl e ↦ (
          ap (list_at (set lists least new)) e ∙ list_set_same lists least new room ∙
              none.0,
          ap (λ a. live_in c.args.size.now c.args.bound.now a (list_at c.args.lists.now.items a)) e ∙ none_old,
        )
        | inr e ↦ (let below : b < least = omega (arith, h, e) in
            (list_set_other lists least new b e ∙ (was.lower b l below).0, (was.lower b l below).1))
      ];
      others = λ b h. elim h [
        | inl k ↦ list_set_other lists least new b (λ e. omega (arith, e, k, rise)) ∙ was.others b (inl k)
        | inr k ↦ list_set_other lists least new b (λ e. omega (arith, e, k)) ∙ was.others b (inr (omega (arith, k)))
      ];
    }
