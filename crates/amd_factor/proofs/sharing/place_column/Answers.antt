use Rattle.std.proofs.Common.{[], ◌≡◌, ◌≤◌, ◌+◌, ◌-◌, ◌++◌, ◌∙◌, ap}
use Rattle.std.proofs.Common.{arith, inl, inr, length, length-take, map, pos, refl, subst, sym, take}
use Rattle.std.specs.Prelude.{Contains, slice_index, slice_range}
use Rattle.std.proofs.lemmas.Bool.{eqb-true}
use Rattle.std.proofs.lemmas.Grind.{common_steps}
use Rattle.std.proofs.lemmas.List.{append-nil, length-take-le}
use Rattle.std.proofs.lemmas.List.Elements.{Contains-get_or}
use Rattle.amd_types.specs.Naturals.{naturals}
use Rattle.amd_factor.specs.Merging.{merged}
use Rattle.amd_factor.specs.Numbers.{AreNonNegative, Plans}
use Rattle.amd_factor.specs.Sharing.{Follows, StandsFrom}
use Rattle.amd_factor.proofs.Factors.PlaceNumbers.{are_range, counts_range, place_of}
use Rattle.amd_factor.proofs.Factors.Sharing.{last_row, numbers_behind, same_front, stands_behind, stands_shared, written_front}
use Rattle.amd_factor.proofs.sharing.place_column.Goals as goal

pub returns-then-is_empty-clause-placed : goal.returns-then-is_empty-clause-placed
returns-then-is_empty-clause-placed g c =
    let empty = c.is_empty.ensures in let t = c.if-is_empty.true in let can = c.requires.place in record {
      more = omega arith;
      within = can.within;
      numbers = can.planned.numbers;
      stands = λ o k planned. stands_shared g.N.Index.value o k (take c.args.used c.args.rows.now.items) c.args.plan.from c.args.plan.to
          c.args.fresh.now planned.plans (eqb-true (length c.args.fresh.now) 0 (sym empty ∙ t));
    }

pub can_append-requires-clause-small : goal.can_append-requires-clause-small
can_append-requires-clause-small g c = λ some last. (
    let can = c.requires.place in
    let plans = subst (λ xs. Plans can.order can.column (naturals (map g.N.Index.value (take c.args.used xs)))
    c.args.plan.from c.args.plan.to c.args.fresh.now) (sym c.deref.ensures.value) can.planned.plans in
    let low = last_row _ _ _ _ _ _ plans some in let small = can.planned.small in omega (arith, low, small))

pub write_merged-requires-clause-numbers : goal.write_merged-requires-clause-numbers
write_merged-requires-clause-numbers g c =
    let done = c.split_at_mut-done.result.0.now in let can = c.requires.place in
    let is = same_front c.args.used c.args.rows.now.items c.lengthen.new.rows.items done can.within c.lengthen.ensures.kept
    (grind (arith, common_steps)) in
    are_range g.N.Index.value done c.args.plan.from c.args.plan.to
    (subst (λ ys. AreNonNegative (map g.N.Index.value ys)) (sym is) can.planned.numbers)

pub write_merged-requires-clause-small : goal.write_merged-requires-clause-small
write_merged-requires-clause-small g c =
    let value = g.N.Index.value in let done = c.split_at_mut-done.result.0.now in let can = c.requires.place in
    let is = same_front c.args.used c.args.rows.now.items c.lengthen.new.rows.items done can.within c.lengthen.ensures.kept
    (grind (arith, common_steps)) in
    let from = c.args.plan.from in let to = c.args.plan.to in
    let plans = subst (λ ys. Plans can.order can.column (naturals (map value ys)) from to c.args.fresh.now) (sym is)
    can.planned.plans in λ x l. (
    let part = slice_range done from to in let j = slice_index (naturals (map value part)) x in
    let entry = (plans.completes.members j).0 (inl (subst (λ ys. Contains ys j) (counts_range value done from to)
    (place_of value part x l))) in
    let low = entry.1 in let small = can.planned.small in omega (arith, low, small))

pub write_merged-requires-clause-fits : goal.write_merged-requires-clause-fits
write_merged-requires-clause-fits g c = λ k l. (
    let x = slice_index c.args.fresh.now k in let can = c.requires.place in
    let entry = (can.planned.plans.completes.members x).0 (inr (Contains-get_or c.args.fresh.now k 0 l)) in can.fit x entry.1)

pub returns-clause-placed : goal.returns-clause-placed
returns-clause-placed g c =
    let value = g.N.Index.value in let done = c.split_at_mut-done.result.0.now in let first = take c.args.used c.args.rows.now.items in
    let can = c.requires.place in let planned = can.planned in
    let is = same_front c.args.used c.args.rows.now.items c.lengthen.new.rows.items done can.within c.lengthen.ensures.kept
    (grind (arith, common_steps)) in
    let from = c.args.plan.from in let to = c.args.plan.to in let fresh = c.args.fresh.now in let out = c.write_merged.new.out in
    let n = c.args.used + (to - from + length fresh) in
    let written : map value out ≡ map pos (merged (slice_range (naturals (map value first)) from to) fresh) =
    c.write_merged.ensures ∙ ap (λ zs. map pos (merged zs fresh)) (counts_range value done from to)
    ∙ ap (λ ys. map pos (merged (slice_range (naturals (map value ys)) from to) fresh)) is in
    let begin : length first ≡ c.args.used = length-take-le c.args.used c.args.rows.now.items can.within in
    let long : n ≡ length done + length out = grind (arith, common_steps) in
    let low : n ≤ c.lengthen.new.rows.len = grind (arith, common_steps) in
    let front = ap (λ xs. xs ++ out) (sym is) ∙ sym (written_front n c.lengthen.new.rows.len done out _ _ long low) in record {
      more = omega arith;
      within = grind (arith, common_steps);
      numbers = subst (λ xs. AreNonNegative (map value xs)) front
          (numbers_behind value can.order can.column first from to fresh planned.plans out written planned.numbers);
      stands = λ o k plans. subst (StandsFrom value o k c.args.used n) front
          (subst (λ b. StandsFrom value o k b (b + (to - from + length fresh)) (first ++ out)) begin
          (stands_behind value o k first from to fresh plans.plans out written));
    }

pub returns-then-is_empty-clause-kept : goal.returns-then-is_empty-clause-kept
returns-then-is_empty-clause-kept g c = refl

pub returns-then-is_empty-clause-room : goal.returns-then-is_empty-clause-room
returns-then-is_empty-clause-room g c = c.requires.place.bound

pub append_rows-requires-clause-place : goal.append_rows-requires-clause-place
append_rows-requires-clause-place g c = c.requires.place

pub append_rows-requires-clause-follows : goal.append_rows-requires-clause-follows
append_rows-requires-clause-follows g c =
    subst (λ xs. Follows (naturals (map g.N.Index.value (take c.args.used xs))) c.args.plan.from c.args.plan.to c.args.fresh.now)
    c.deref.ensures.value (c.can_append.ensures c.if-can_append.true)

pub returns-then-can_append-clause-placed : goal.returns-then-can_append-clause-placed
returns-then-can_append-clause-placed g c = c.append_rows.ensures.placed

pub returns-then-can_append-clause-kept : goal.returns-then-can_append-clause-kept
returns-then-can_append-clause-kept g c = c.append_rows.ensures.kept

pub returns-then-can_append-clause-room : goal.returns-then-can_append-clause-room
returns-then-can_append-clause-room g c = c.append_rows.ensures.room

pub can_append-requires-clause-numbers : goal.can_append-requires-clause-numbers
can_append-requires-clause-numbers g c =
    subst (λ xs. AreNonNegative (map g.N.Index.value (take c.args.used xs))) (sym c.deref.ensures.value) c.requires.place.planned.numbers

pub can_append-requires-clause-range : goal.can_append-requires-clause-range
can_append-requires-clause-range g c = c.requires.place.planned.plans.range

pub returns-then-room-used-clause-kept : goal.returns-then-room-used-clause-kept
returns-then-room-used-clause-kept g c = refl

pub returns-then-room-used-clause-room : goal.returns-then-room-used-clause-room
returns-then-room-used-clause-room g c = c.requires.place.bound

pub lengthen-requires : goal.lengthen-requires
lengthen-requires g c =
    let can = c.requires.place in let within = can.within in let bound = can.bound in let size = c.if-room-used.false in
    record { room = (omega (arith, size, within, bound), bound) }

pub returns-clause-kept : goal.returns-clause-kept
returns-clause-kept g c =
    let done = c.split_at_mut-done.result.0.now in let items = c.args.rows.now.items in let can = c.requires.place in
    let is = same_front c.args.used items c.lengthen.new.rows.items done can.within c.lengthen.ensures.kept (grind (arith, common_steps)) in
    let begin : c.args.used ≡ length done = sym (length-take-le c.args.used items can.within) ∙ sym (ap length is) in
    let low : c.args.used ≤ c.lengthen.new.rows.len = (let long = c.in_ok-lengthen.ensures.long in let len = c.lengthen.new.rows.ok.0 in
    omega (arith, long, len)) in
    written_front c.args.used c.lengthen.new.rows.len done [] _ _ (omega (arith, begin)) low ∙ append-nil done ∙ is

pub returns-clause-room : goal.returns-clause-room
returns-clause-room g c =
    let room = c.lengthen.ensures.room in let len = c.lengthen.new.rows.ok.0 in
    simp length-take (omega (arith, room, len))

pub returns-in_err-lengthen-clause-kept : goal.returns-in_err-lengthen-clause-kept
returns-in_err-lengthen-clause-kept g c =
    same_front c.args.used c.args.rows.now.items c.lengthen.new.rows.items (take c.args.used c.lengthen.new.rows.items)
    c.requires.place.within c.lengthen.ensures.kept refl

pub returns-in_err-lengthen-clause-room : goal.returns-in_err-lengthen-clause-room
returns-in_err-lengthen-clause-room g c = c.lengthen.ensures.room
