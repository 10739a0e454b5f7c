-- the goals of rounds::merge_classes.
use Rattle.std.proofs.Common.{ℕ, Bool, Some, List, ◌≡◌, ◌<◌, ◌≤◌, ◌+◌, ◌-◌, ◌^◌}
use Rattle.std.proofs.Common.{◌∙◌, ◌&&◌, ◌==◌, not, cond, ap, refl, sym, arith, subst, filter}
use Rattle.std.proofs.Common.{sum_by, length, length-set, lt_of_lt_of_le, le_of_eq}
use Rattle.std.proofs.lemmas.Grind.{get_or_default_zero}
use Rattle.std.proofs.lemmas.Result.{IfOk-from_err}
use Rattle.amd_model.specs.Quotient.{has, last_that}
use Rattle.amd_plain.specs.Views.{num, some_at, ListsBelow}
use Rattle.amd_plain.specs.Rounds.{plain_mass, plain_alike}
use Rattle.amd_plain.specs.Keeps.{IsIdle}
use Rattle.amd_plain.proofs.ListPlaces.{put_at}
use Rattle.amd_plain.proofs.MergeParts.{part_below, part_once, part_named, part_rows, part_left, into_settled, rows_same, rows_joined}
use Rattle.amd_plain.proofs.MergeParts.{links_joined}
use Rattle.amd_plain.proofs.rounds.merge_classes.Goals as goal

pub others_left-requires-clause-elements : goal.others_left-requires-clause-elements
others_left-requires-clause-elements g c = rw c.requires.sized.elements.0 c.requires.range

pub others_left-requires-clause-variables : goal.others_left-requires-clause-variables
others_left-requires-clause-variables g c = rw c.requires.sized.variables.0 c.requires.range

pub returns-in_err-rest : goal.returns-in_err-rest
returns-in_err-rest g c = record { merges = IfOk-from_err c.from_residual.result _ c.from_residual.ensures.0 }

pub rows_of-border-requires-clause-range : goal.rows_of-border-requires-clause-range
rows_of-border-requires-clause-range g c =
    let left : ℕ → Bool = λ i. not (plain_mass c.args.work.now.lists.elements.items c.args.work.now.lists.variables.items i) in
    rw (c.deref.ensures.value, c.deref-2.ensures.value)
    (part_below left c.args.front.now c.in_ok-rest.rest.items c.in_ok-rest.ensures (length c.args.work.now.size.items) c.requires.range)

pub rows_of-border-requires-clause-fits : goal.rows_of-border-requires-clause-fits
rows_of-border-requires-clause-fits g c =
    let left : ℕ → Bool = λ i. not (plain_mass c.args.work.now.lists.elements.items c.args.work.now.lists.variables.items i) in
    let same : sum_by (num c.deref-2.result.now) c.deref.result.now ≡ sum_by (num c.args.work.now.size.items) c.in_ok-rest.rest.items =
    rows_same c.deref.result.now c.in_ok-rest.rest.items c.deref-2.result.now c.args.work.now.size.items c.deref.ensures.value
    c.deref-2.ensures.value in
    let part : sum_by (num c.args.work.now.size.items) c.in_ok-rest.rest.items ≤ sum_by (num c.args.work.now.size.items) c.args.front.now =
    part_rows left c.args.front.now c.in_ok-rest.rest.items c.in_ok-rest.ensures (num c.args.work.now.size.items) in
    let live = c.requires.live in
    let word : c.args.work.now.live < 2 ^ 64 = omega (arith, c.well_formed) in
    omega (arith, same, part, live, word)

pub index-requires : goal.index-requires
index-requires g c = let row = c.requires.pivot in let ok = c.args.work.now.size.ok in omega (arith, row, ok.0)

pub rows_of-requires-clause-range : goal.rows_of-requires-clause-range
rows_of-requires-clause-range g c = rw c.deref-3.ensures.value c.requires.range

pub rows_of-requires-clause-fits : goal.rows_of-requires-clause-fits
rows_of-requires-clause-fits g c =
    let same = ap (λ l. sum_by (num l) c.args.front.now) c.deref-3.ensures.value in
    let live = c.requires.live in
    let word : c.args.work.now.live < 2 ^ 64 = omega (arith, c.well_formed) in
    omega (arith, same, live, word)

pub overflow_sub-block : goal.overflow_sub-block
overflow_sub-block g c =
    let left : ℕ → Bool = λ i. not (plain_mass c.args.work.now.lists.elements.items c.args.work.now.lists.variables.items i) in
    let whole : c.rows_of.result ≡ sum_by (num c.args.work.now.size.items) c.args.front.now = c.rows_of.ensures ∙
    ap (λ l. sum_by (num l) c.args.front.now) c.deref-3.ensures.value in
    let border : c.rows_of-border.result ≡ sum_by (num c.args.work.now.size.items) c.in_ok-rest.rest.items =
    c.rows_of-border.ensures ∙ rows_same c.deref.result.now c.in_ok-rest.rest.items c.deref-2.result.now c.args.work.now.size.items
    c.deref.ensures.value c.deref-2.ensures.value in
    let part : sum_by (num c.args.work.now.size.items) c.in_ok-rest.rest.items ≤ sum_by (num c.args.work.now.size.items) c.args.front.now =
    part_rows left c.args.front.now c.in_ok-rest.rest.items c.in_ok-rest.ensures (num c.args.work.now.size.items) in
    omega (arith, whole, border, part)

pub overflow_add-block : goal.overflow_add-block
overflow_add-block g c =
    let whole : c.rows_of.result ≡ sum_by (num c.args.work.now.size.items) c.args.front.now = c.rows_of.ensures ∙
    ap (λ l. sum_by (num l) c.args.front.now) c.deref-3.ensures.value in
    let own : c.index.result.now ≡ num c.args.work.now.size.items c.args.pivot = c.index.ensures ∙
    get_or_default_zero c.args.work.now.size.items c.args.pivot c.index.result.now c.requires.pivot in
    let live = c.requires.live in
    let word : c.args.work.now.live < 2 ^ 64 = omega (arith, c.well_formed) in
    record { fits = omega (arith, whole, own, live, word) }

pub retire-requires-clause-lengths : goal.retire-requires-clause-lengths
retire-requires-clause-lengths g c = let s = c.requires.sized in (s.elements.0, s.variables.0, s.link)

pub retire-requires-clause-range : goal.retire-requires-clause-range
retire-requires-clause-range g c = c.requires.range

pub representatives-requires-clause-idle : goal.representatives-requires-clause-idle
representatives-requires-clause-idle g c = let s = c.requires.sized in
    subst (λ m. IsIdle m c.args.work.now.scratch) (sym s.elements.0) s.idle

pub representatives-requires-clause-elements : goal.representatives-requires-clause-elements
representatives-requires-clause-elements g c = let s = c.requires.sized in
    subst (λ m. ListsBelow m c.args.work.now.lists.elements.items) (sym s.elements.0) s.elements

pub representatives-requires-clause-variables : goal.representatives-requires-clause-variables
representatives-requires-clause-variables g c = let s = c.requires.sized in
    subst (λ m. ListsBelow m c.args.work.now.lists.variables.items) (sym s.elements.0) s.variables

pub representatives-requires-clause-range : goal.representatives-requires-clause-range
representatives-requires-clause-range g c =
    let left : ℕ → Bool = λ i. not (plain_mass c.args.work.now.lists.elements.items c.args.work.now.lists.variables.items i) in
    rw (c.deref-4.ensures.value, c.requires.sized.elements.0)
    (part_below left c.args.front.now c.in_ok-rest.rest.items c.in_ok-rest.ensures (length c.args.work.now.size.items) c.requires.range)

pub representatives-requires-clause-once : goal.representatives-requires-clause-once
representatives-requires-clause-once g c =
    let left : ℕ → Bool = λ i. not (plain_mass c.args.work.now.lists.elements.items c.args.work.now.lists.variables.items i) in
    rw c.deref-4.ensures.value (part_once left c.args.front.now c.in_ok-rest.rest.items c.in_ok-rest.ensures c.requires.once)

pub representatives-requires-clause-lists_once : goal.representatives-requires-clause-lists_once
representatives-requires-clause-lists_once g c =
    let left : ℕ → Bool = λ i. not (plain_mass c.args.work.now.lists.elements.items c.args.work.now.lists.variables.items i) in
    λ i h. c.requires.lists_once i
    (part_named left c.args.front.now c.in_ok-rest.rest.items c.in_ok-rest.ensures i (ap (λ l. has l i) (sym c.deref-4.ensures.value) ∙ h))

pub returns-in_err-representatives : goal.returns-in_err-representatives
returns-in_err-representatives g c =
    record { merges = IfOk-from_err c.from_residual-in_err-representatives.result _ c.from_residual-in_err-representatives.ensures.0 }

pub join-requires-clause-lengths : goal.join-requires-clause-lengths
join-requires-clause-lengths g c =
    let s = c.requires.sized in let kept = c.retire.ensures.lengths in (
      ap length c.deref-6.ensures.value ∙ c.in_ok-representatives.ensures.idle.into ∙ s.elements.0 ∙ sym kept.0,
      kept.1 ∙ s.link ∙
          sym kept.0,
    )

pub join-requires-clause-range : goal.join-requires-clause-range
join-requires-clause-range g c =
    let left : ℕ → Bool = λ i. not (plain_mass c.args.work.now.lists.elements.items c.args.work.now.lists.variables.items i) in
    rw (c.deref-5.ensures.value, c.retire.ensures.lengths.0)
    (part_below left c.args.front.now c.in_ok-rest.rest.items c.in_ok-rest.ensures (length c.args.work.now.size.items) c.requires.range)

pub join-requires-clause-once : goal.join-requires-clause-once
join-requires-clause-once g c =
    let left : ℕ → Bool = λ i. not (plain_mass c.args.work.now.lists.elements.items c.args.work.now.lists.variables.items i) in
    rw c.deref-5.ensures.value (part_once left c.args.front.now c.in_ok-rest.rest.items c.in_ok-rest.ensures c.requires.once)

pub join-requires-clause-into : goal.join-requires-clause-into
join-requires-clause-into g c = rw (c.deref-5.ensures.value, c.deref-6.ensures.value, sym c.deref-4.ensures.value)
    (into_settled c.args.work.now.lists.elements.items c.args.work.now.lists.variables.items
    c.deref-4.result.now (num c.representatives.new.scratch.into.items)
    c.in_ok-representatives.ensures.into)

pub join-requires-clause-fits : goal.join-requires-clause-fits
join-requires-clause-fits g c =
    let left : ℕ → Bool = λ i. not (plain_mass c.args.work.now.lists.elements.items c.args.work.now.lists.variables.items i) in
    let same = ap (sum_by (num c.retire.new.size.items)) c.deref-5.ensures.value in
    let part : sum_by (num c.retire.new.size.items) c.in_ok-rest.rest.items ≤ sum_by (num c.args.work.now.size.items) c.args.front.now =
    part_left left c.args.front.now c.in_ok-rest.rest.items c.in_ok-rest.ensures
    (num c.args.work.now.size.items) (num c.retire.new.size.items)
    (λ x. has c.args.front.now x && plain_mass c.args.work.now.lists.elements.items c.args.work.now.lists.variables.items x)
    c.retire.ensures.sizes in
    let live = c.requires.live in
    let word : c.args.work.now.live < 2 ^ 64 = omega (arith, c.well_formed) in
    omega (arith, same, part, live, word)

pub made_of-requires : goal.made_of-requires
made_of-requires g c =
    let left : ℕ → Bool = λ i. not (plain_mass c.args.work.now.lists.elements.items c.args.work.now.lists.variables.items i) in
    let room : length c.deref-8.result.now ≡ length c.args.work.now.size.items = ap length c.deref-8.ensures.value ∙
    c.in_ok-representatives.ensures.idle.into ∙ c.requires.sized.elements.0 in
    record {
      range = rw (c.deref-7.ensures.value, room) (part_below left c.args.front.now c.in_ok-rest.rest.items c.in_ok-rest.ensures
          (length c.args.work.now.size.items) c.requires.range);
    }

pub returns-in_err-made : goal.returns-in_err-made
returns-in_err-made g c = record { merges = IfOk-from_err c.from_residual-in_err-made.result _ c.from_residual-in_err-made.ensures.0 }

pub index_mut-requires : goal.index_mut-requires
index_mut-requires g c = let row = c.requires.pivot in let a = c.join.ensures.lengths.0 in let b = c.retire.ensures.lengths.0 in
    let ok = c.join.new.size.ok in omega (arith, row, a, b, ok.0)

pub overflow_sub-work : goal.overflow_sub-work
overflow_sub-work g c =
    let whole : c.rows_of.result ≡ sum_by (num c.args.work.now.size.items) c.args.front.now = c.rows_of.ensures ∙
    ap (λ l. sum_by (num l) c.args.front.now) c.deref-3.ensures.value in
    let own : c.index.result.now ≡ num c.args.work.now.size.items c.args.pivot = c.index.ensures ∙
    get_or_default_zero c.args.work.now.size.items c.args.pivot c.index.result.now c.requires.pivot in
    let live = c.requires.live in
    omega (arith, whole, own, live)

pub returns : goal.returns
returns g c =
    let size : List ℕ = c.args.work.now.size.items in let rest : List ℕ = c.in_ok-rest.rest.items in
    let into : List ℕ = c.representatives.new.scratch.into.items in
    let whole : c.rows_of.result ≡ sum_by (num c.args.work.now.size.items) c.args.front.now = c.rows_of.ensures ∙
    ap (λ l. sum_by (num l) c.args.front.now) c.deref-3.ensures.value in
    let own : c.index.result.now ≡ num c.args.work.now.size.items c.args.pivot = c.index.ensures ∙
    get_or_default_zero c.args.work.now.size.items c.args.pivot c.index.result.now c.requires.pivot in
    let s = c.requires.sized in let p : ℕ = c.args.pivot in
    let left : List ℕ = c.retire.new.size.items in let joined : List ℕ = c.join.new.size.items in
    let room : length joined ≡ length size = c.join.ensures.lengths.0 ∙ c.retire.ensures.lengths.0 in
    let within : p < length joined = lt_of_lt_of_le c.requires.pivot (le_of_eq (sym room)) in
    let idle : IsIdle (length size) c.representatives.new.scratch =
    subst (λ m. IsIdle m c.representatives.new.scratch) s.elements.0 c.in_ok-representatives.ensures.idle in
    record {
      merges = record {
        rest = rest;
        rest_is = c.in_ok-rest.ensures;
        border_is = c.rows_of-border.ensures ∙ rows_same c.deref.result.now c.in_ok-rest.rest.items c.deref-2.result.now
            c.args.work.now.size.items c.deref.ensures.value c.deref-2.ensures.value;
        block_is = ap (λ m. m + (c.rows_of.result - c.rows_of-border.result)) own ∙
            ap (λ m. num size p + (m - c.rows_of-border.result)) whole;
        into_is = λ i h. c.in_ok-representatives.ensures.into i (ap (λ l. has l i) c.deref-4.ensures.value ∙ h) ∙
            ap (last_that (plain_alike c.args.work.now.lists.elements.items c.args.work.now.lists.variables.items i) i)
            c.deref-4.ensures.value;
        made_is = c.in_ok-made.ensures ∙ ap (λ l. filter (λ i. num l i == i) c.deref-7.result.now) c.deref-8.ensures.value ∙
            ap (filter (λ i. num into i == i)) c.deref-7.ensures.value;
        retired = left;
        retired_is = c.retire.ensures.sizes;
        joined = joined;
        joined_is = rows_joined rest into c.deref-5.result.now c.deref-6.result.now c.deref-5.ensures.value c.deref-6.ensures.value
            (num left) (num joined) c.join.ensures.sizes;
        size_is = put_at joined p 0 0 within;
        link_is = λ x. links_joined rest into c.deref-5.result.now c.deref-6.result.now c.deref-5.ensures.value c.deref-6.ensures.value
            (some_at c.retire.new.link.items)
            (some_at c.join.new.link.items) c.join.ensures.links x
            ∙ ap (cond (has rest x && not (num into x == x)) (Some (num into x))) (c.retire.ensures.links x);
        live_is = refl;
        lists = refl;
        bound = refl;
        placed = refl;
        least = refl;
        parent = refl;
        beyond = c.in_ok-representatives.ensures.beyond;
        elements = record { block = refl; front = refl; n_dense = refl; figures = refl };
        sized = record {
          variables = s.variables;
          elements = s.elements;
          members = s.members;
          placed = s.placed;
          size = length-set joined p 0 ∙ room;
          bound = s.bound;
          link = c.join.ensures.lengths.1 ∙ c.retire.ensures.lengths.1 ∙ s.link;
          parent = s.parent;
          block = s.block;
          front = s.front;
          idle = record { rows = idle.rows; elements = idle.elements; groups = idle.groups; beyond = idle.beyond; into = idle.into };
        };
      };
    }
