-- the goals of rounds::renew_classes.
use Rattle.std.proofs.Common.{ℕ, true, List, ◌∷◌, ◌++◌, ◌≡◌, ◌<◌, ◌+◌, ◌∙◌, ◌==◌, inl, inr, ap, refl, sym, arith, subst, cond}
use Rattle.std.proofs.Common.{filter, length, length-set, lt_of_lt_of_le, le_of_eq, le_trans}
use Rattle.amd_model.specs.Quotient.{has, turned}
use Rattle.amd_plain.specs.Views.{num, list_at, ListsBelow}
use Rattle.amd_plain.proofs.ListPlaces.{lists_set, put_at, list_written}
use Rattle.amd_plain.proofs.RenewedParts.{renewed, renewed_small}
use Rattle.std.proofs.lemmas.Result.{IfOk-from_err}
use Rattle.amd_plain.proofs.rounds.renew_classes.Goals as goal

pub renew_bounds-requires-clause-lengths : goal.renew_bounds-requires-clause-lengths
renew_bounds-requires-clause-lengths g c =
    let s = c.requires.sized in
    let row = ap length c.deref-3.ensures.value in
    (ap length c.deref-2.ensures.value ∙ s.idle.beyond ∙ sym row, s.bound ∙ sym row)

pub renew_bounds-requires-clause-elements : goal.renew_bounds-requires-clause-elements
renew_bounds-requires-clause-elements g c = rw c.deref-3.ensures.value c.requires.sized.elements

pub renew_bounds-requires-clause-variables : goal.renew_bounds-requires-clause-variables
renew_bounds-requires-clause-variables g c = rw c.deref-3.ensures.value c.requires.sized.variables

pub renew_bounds-requires-clause-range : goal.renew_bounds-requires-clause-range
renew_bounds-requires-clause-range g c = rw (c.deref.ensures.value, c.deref-3.ensures.value) c.requires.range

pub renew_bounds-requires-clause-once : goal.renew_bounds-requires-clause-once
renew_bounds-requires-clause-once g c = rw c.deref.ensures.value c.requires.once

pub renew_bounds-requires-clause-sizes : goal.renew_bounds-requires-clause-sizes
renew_bounds-requires-clause-sizes g c = rw (c.deref.ensures.value, c.deref-3.ensures.value)
    (λ i h. let s = c.requires.sizes i h in (s.0, s.1))

pub renew_bounds-requires-clause-fits : goal.renew_bounds-requires-clause-fits
renew_bounds-requires-clause-fits g c = rw c.deref.ensures.value (λ i h.
    let small = c.requires.small i h in let live = c.requires.live in let border = c.requires.border in
    let row = ap length c.deref-3.ensures.value in let room = c.deref-3.type_inv.1 in
    omega (arith, small, live, border, row, room))

pub renew_lists-requires-clause-lengths : goal.renew_lists-requires-clause-lengths
renew_lists-requires-clause-lengths g c = c.requires.sized.variables.0 ∙ sym c.requires.sized.elements.0

pub renew_lists-requires-clause-pivot : goal.renew_lists-requires-clause-pivot
renew_lists-requires-clause-pivot g c = let r = c.requires.pivot in let e = c.requires.sized.elements.0 in omega (arith, r, e)

pub renew_lists-requires-clause-elements : goal.renew_lists-requires-clause-elements
renew_lists-requires-clause-elements g c = let s = c.requires.sized in
    subst (λ m. ListsBelow m c.args.work.now.lists.elements.items) (sym s.elements.0) s.elements

pub renew_lists-requires-clause-variables : goal.renew_lists-requires-clause-variables
renew_lists-requires-clause-variables g c = rw c.requires.sized.elements.0 c.requires.sized.variables

pub renew_lists-requires-clause-range : goal.renew_lists-requires-clause-range
renew_lists-requires-clause-range g c = rw (c.deref-4.ensures.value, c.requires.sized.elements.0) c.requires.range

pub renew_lists-requires-clause-once : goal.renew_lists-requires-clause-once
renew_lists-requires-clause-once g c = rw c.deref-4.ensures.value c.requires.once

pub returns-in_err-renew_lists : goal.returns-in_err-renew_lists
returns-in_err-renew_lists g c = record { renews = IfOk-from_err c.from_residual.result _ c.from_residual.ensures.0 }

pub place_all-requires-clause-range : goal.place_all-requires-clause-range
place_all-requires-clause-range g c =
    let row : length c.deref-6.result.now ≡ length c.args.work.now.size.items = ap length c.deref-6.ensures.value ∙
    c.renew_bounds.ensures.length ∙ c.requires.sized.bound in
    rw row c.requires.sized.placed

pub place_all-requires-clause-made : goal.place_all-requires-clause-made
place_all-requires-clause-made g c =
    let row : length c.deref-6.result.now ≡ length c.args.work.now.size.items = ap length c.deref-6.ensures.value ∙
    c.renew_bounds.ensures.length ∙ c.requires.sized.bound in
    rw (c.deref-5.ensures.value, row) c.requires.range

pub place_all-requires-clause-small : goal.place_all-requires-clause-small
place_all-requires-clause-small g c =
    let r = c.requires in
    let n : ℕ = length c.args.work.now.size.items in
    let row : length c.deref-6.result.now ≡ n = ap length c.deref-6.ensures.value ∙ c.renew_bounds.ensures.length ∙ r.sized.bound in
    let small : (i : ℕ) → has c.args.made.items i ≡ true → num c.renew_bounds.new.bound.items i < n = λ i h.
    renewed_small c.args.border c.args.work.now.live c.args.work.now.lists c.args.made.items c.deref.result.now
    c.args.work.now.scratch.beyond.items c.deref-2.result.now
    c.args.work.now.size.items c.deref-3.result.now c.args.work.now.bound.items c.renew_bounds.new.bound.items
    c.deref.ensures.value c.deref-2.ensures.value c.deref-3.ensures.value c.renew_bounds.ensures.bounds i
    n h (r.sizes i h).2 (r.sizes i h).1 (let live = r.live in omega (arith, live)) in
    λ i h. (let s = small i (ap (λ l. has l i) (sym c.deref-5.ensures.value) ∙ h) in let e = ap (λ l. num l i) c.deref-6.ensures.value in
    omega (arith, s, e, row))

pub returns-in_err-place_all : goal.returns-in_err-place_all
returns-in_err-place_all g c =
    record { renews = IfOk-from_err c.from_residual-in_err-place_all.result _ c.from_residual-in_err-place_all.ensures.0 }

pub index_mut-requires : goal.index_mut-requires
index_mut-requires g c =
    let row = c.requires.pivot in
    let room = ap (λ v. length v.items) c.in_ok-renew_lists.ensures.members ∙ c.requires.sized.members.0 in
    let ok = c.renew_lists.new.lists.members.ok in
    omega (arith, row, room, ok.0)

pub index_mut-requires-2 : goal.index_mut-requires-2
index_mut-requires-2 g c = let row = c.requires.pivot in let room = c.requires.sized.block in let ok = c.args.work.now.block.ok in
    omega (arith, row, room, ok.0)

pub overflow_add-block : goal.overflow_add-block
overflow_add-block g c = let dense = c.requires.dense in omega (arith, dense)

pub index_mut-requires-3 : goal.index_mut-requires-3
index_mut-requires-3 g c = let row = c.requires.pivot in let room = c.requires.sized.front in let ok = c.args.work.now.front.ok in
    omega (arith, row, room, ok.0)

pub overflow_add-border : goal.overflow_add-border
overflow_add-border g c = let dense = c.requires.dense in omega (arith, dense)

pub add_front-requires : goal.add_front-requires
add_front-requires g c = c.requires.dense

pub returns : goal.returns
returns g c =
    let r = c.requires in let s = r.sized in let p : ℕ = c.args.pivot in let n : ℕ = length c.args.work.now.size.items in
    let made : List ℕ = c.args.made.items in let old = c.args.work.now.lists in
    let lists = c.in_ok-renew_lists.ensures in let members = c.renew_lists.new.lists.members.items in
    let bound : List ℕ = c.renew_bounds.new.bound.items in
    let placing = c.in_ok-place_all.ensures in
    let row : length c.deref-6.result.now ≡ n = ap length c.deref-6.ensures.value ∙ c.renew_bounds.ensures.length ∙ s.bound in
    let room : p < length members = lt_of_lt_of_le r.pivot (le_of_eq (sym (ap (λ v. length v.items) lists.members ∙ s.members.0))) in
    let block_room : p < length c.args.work.now.block.items = lt_of_lt_of_le r.pivot (le_of_eq (sym s.block)) in
    let front_room : p < length c.args.work.now.front.items = lt_of_lt_of_le r.pivot (le_of_eq (sym s.front)) in
    record {
      renews = record {
        bound_is = renewed c.args.border c.args.work.now.live old made c.deref.result.now c.args.work.now.scratch.beyond.items
            c.deref-2.result.now
            c.args.work.now.size.items c.deref-3.result.now c.args.work.now.bound.items bound
            c.deref.ensures.value c.deref-2.ensures.value c.deref-3.ensures.value c.renew_bounds.ensures.bounds;
        elements_is = λ i. lists.new_elements i ∙
            ap (λ l. cond (has l i) (p ∷ turned (list_at old.elements.items i)) (list_at old.elements.items i)) c.deref-4.ensures.value;
        variables_is = λ i. lists.new_variables i ∙
            ap (λ l. cond (has l i) (turned (list_at old.variables.items i)) (list_at old.variables.items i)) c.deref-4.ensures.value;
        members_is = λ e. list_written members p c.args.made room e ∙ ap (λ v. cond (e == p) made (list_at v.items e)) lists.members;
        placed_is = λ b. placing.placed b ∙
            ap (λ l. list_at c.args.work.now.placed.items b ++ filter (λ i. num l i == b) c.deref-5.result.now) c.deref-6.ensures.value
            ∙ ap (λ l. list_at c.args.work.now.placed.items b ++ filter (λ i. num bound i == b) l) c.deref-5.ensures.value;
        least_is = (
          placing.least.0,
          λ i h. (let low = placing.least.1 i (ap (λ l. has l i) c.deref-5.ensures.value ∙ h) in
              le_trans low (le_of_eq (ap (λ l. num l i) c.deref-6.ensures.value))),
        );
        least_one = elim placing.one [
          | inl e ↦ inl e
          | inr k ↦ inr (k.0, sym (ap (λ l. has l k.0) c.deref-5.ensures.value) ∙ k.1, k.2 ∙ ap (λ l. num l k.0) c.deref-6.ensures.value)
        ];
        blocks = put_at c.args.work.now.block.items p c.args.block 0 block_room;
        fronts = put_at c.args.work.now.front.items p (c.args.block + c.args.border) 0 front_room;
        lnz = c.add_front.ensures.lnz;
        ldl = c.add_front.ensures.ldl;
        lu = c.add_front.ensures.lu;
        greatest = c.add_front.ensures.d_max;
        size = refl;
        link = refl;
        live = refl;
        parent = refl;
        dense_rows = refl;
        sized = record {
          variables = subst (λ m. ListsBelow m c.renew_lists.new.lists.variables.items) s.elements.0 lists.variables;
          elements = subst (λ m. ListsBelow m c.renew_lists.new.lists.elements.items) s.elements.0 lists.elements;
          members = lists_set n members p c.args.made (subst (λ v. ListsBelow n v.items) (sym lists.members) s.members) r.range;
          placed = subst (λ m. ListsBelow m c.place_all.new.lists.items) row placing.range;
          size = refl;
          bound = c.renew_bounds.ensures.length ∙ s.bound;
          link = s.link;
          parent = s.parent;
          block = length-set _ p _ ∙ s.block;
          front = length-set _ p _ ∙ s.front;
          idle = s.idle;
        };
      };
    }
