use Rattle.std.proofs.Common.{◌≡◌, ◌++◌, ◌∙◌, ap, arith, inl, inr, length, map, pos, subst, sym}
use Rattle.std.specs.Prelude.{Contains, slice_index, slice_range}
use Rattle.std.proofs.lemmas.List.{length-append}
use Rattle.std.proofs.lemmas.List.Elements.{Contains-get_or}
use Rattle.amd_model.specs.Factor.{IsColumn}
use Rattle.amd_factor.specs.Gathering.{HoldBefore, TellFirst}
use Rattle.amd_factor.specs.Merging.{merged}
use Rattle.amd_factor.specs.Numbers.{AreNonNegative, Plans}
use Rattle.amd_factor.proofs.Factors.PlaceNumbers.{are_append, are_range, counts_append, counts_long, counts_range, place_of}
use Rattle.amd_factor.proofs.Factors.Standing.{merged_column, hold_same, tell_same}
use Rattle.amd_factor.proofs.Factors.Tails.{range_before, range_last}
use Rattle.amd_factor.proofs.column.finish_column.Goals as goal
use Rattle.amd_types.specs.Naturals.{naturals}

pub write_merged-requires-clause-numbers : goal.write_merged-requires-clause-numbers
write_merged-requires-clause-numbers g c =
    let planned = c.requires.1.1 in
    let value = g.N.Index.value in let done = c.split_at_mut-done.result.0.now in
    are_range value done c.args.plan.from c.args.plan.to
    (subst (λ ys. AreNonNegative (map value ys)) (sym c.split_at_mut-done.ensures.front) planned.numbers)

pub write_merged-requires-clause-small : goal.write_merged-requires-clause-small
write_merged-requires-clause-small g c =
    let planned = c.requires.1.1 in
    let value = g.N.Index.value in let done = c.split_at_mut-done.result.0.now in
    let plans = subst (λ ys. Plans g.o c.args.k (naturals (map value ys)) c.args.plan.from c.args.plan.to c.args.fresh.now)
    (sym c.split_at_mut-done.ensures.front) planned.plans in λ k l. (
    let part = slice_range done c.args.plan.from c.args.plan.to in
    let x = slice_index (naturals (map value part)) k in
    let entry = (plans.completes.members x).0 (inl (subst (λ ys. Contains ys x) (counts_range value done c.args.plan.from c.args.plan.to)
    (place_of value part k l))) in
    let low = entry.1 in let room = planned.parents.room in omega (arith, low, room))

pub write_merged-requires-clause-fits : goal.write_merged-requires-clause-fits
write_merged-requires-clause-fits g c =
    let fits = c.requires.1.0 in let planned = c.requires.1.1 in
    λ k l. (
    let entry = (planned.plans.completes.members (slice_index c.args.fresh.now k)).0
    (inr (Contains-get_or c.args.fresh.now k 0 l)) in
    fits (slice_index c.args.fresh.now k) entry.1)

pub close_column-requires : goal.close_column-requires
close_column-requires g c κs inside =
    let planned = c.requires.1.1 in
    let value = g.N.Index.value in let done = c.split_at_mut-done.result.0.now in
    let front = sym c.split_at_mut-done.ensures.front in
    let plans = subst (λ ys. Plans g.o c.args.k (naturals (map value ys)) c.args.plan.from c.args.plan.to c.args.fresh.now) front
    planned.plans in
    let numbers = subst (λ ys. AreNonNegative (map value ys)) front planned.numbers in
    let columns = subst (λ ys. HoldBefore g.o c.args.k c.args.ptr.now (naturals (map value ys))) front planned.columns in
    let parents = subst (λ ys. TellFirst g.o c.args.k c.args.ptr.now (naturals (map value ys)) c.args.parent.now) front
    planned.parents in
    let rows = naturals (map value done) in
    let fresh = c.args.fresh.now in
    let part = slice_range rows c.args.plan.from c.args.plan.to in
    let out = c.write_merged.new.out in
    let written : map value out ≡ map pos (merged part fresh) =
    c.write_merged.ensures ∙ ap (λ zs. map pos (merged zs fresh)) (counts_range value done c.args.plan.from c.args.plan.to) in
    let new = naturals (map value (done ++ out)) in
    let is : new ≡ rows ++ merged part fresh = counts_append value done out (merged part fresh) written in
    let begin : slice_index c.args.ptr.now c.args.k ≡ length rows =
    sym c.split_at_mut-done.ensures.front_len ∙ sym (counts_long value done) in
    let size : length (done ++ out) ≡ length new = sym (counts_long value (done ++ out)) in
    let all = ap length is in let sum = length-append rows (merged part fresh) in
    let kept = range_before rows (merged part fresh) new _ is begin in (
      inside,
      record {
        laws = planned.laws;
        place = planned.place;
        numbers = are_append value done out (merged part fresh) numbers written;
        columns = hold_same g.o c.args.k c.args.ptr.now rows new columns kept (omega (arith, all, sum));
        parents = tell_same g.o c.args.k c.args.ptr.now rows new columns kept (omega (arith, all, sum)) c.args.parent.now parents;
        links = planned.links;
        range = omega (arith, size, begin, all, sum);
        within = omega arith;
        column = subst (IsColumn g.o.graph g.o.rows c.args.k) (sym (range_last rows (merged part fresh) new _ _ is begin size))
            (merged_column (record { order = g.o; place = c.args.k; inherited = part }) fresh plans.rising plans.completes);
      },
    )

pub returns-clause-numbers : goal.returns-clause-numbers
returns-clause-numbers g c =
    let planned = c.requires.1.1 in
    let value = g.N.Index.value in let done = c.split_at_mut-done.result.0.now in
    are_append value done c.write_merged.new.out
    (merged (naturals (map value (slice_range done c.args.plan.from c.args.plan.to))) c.args.fresh.now)
    (subst (λ ys. AreNonNegative (map value ys)) (sym c.split_at_mut-done.ensures.front) planned.numbers) c.write_merged.ensures

pub returns-clause-columns : goal.returns-clause-columns
returns-clause-columns g c = c.close_column.ensures.columns

pub returns-clause-parents : goal.returns-clause-parents
returns-clause-parents g c = c.close_column.ensures.parents

pub returns-clause-links : goal.returns-clause-links
returns-clause-links g c = c.close_column.ensures.links

pub returns-clause-end : goal.returns-clause-end
returns-clause-end g c = c.close_column.ensures.end
