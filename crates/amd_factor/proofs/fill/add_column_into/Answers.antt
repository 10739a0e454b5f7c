use Rattle.std.proofs.Common.{ℕ, ℤ, List, ◌≡◌, ◌≤◌, ◌+◌, ◌-◌, sym, subst, arith, length, map, take}
use Rattle.std.specs.Prelude.{Option, slice_index}
use Rattle.std.proofs.lemmas.Grind.{common_steps}
use Rattle.std.proofs.lemmas.List.{length-take-le, take-take}
use Rattle.amd_types.specs.Naturals.{naturals}
use Rattle.amd_factor.specs.Gathering.{HoldBefore, TellFirst}
use Rattle.amd_factor.specs.Numbers.{AreNonNegative, Plans}
use Rattle.amd_factor.specs.Orders.{Order}
use Rattle.amd_factor.proofs.Factors.Fronts.{passes, taken_short}
use Rattle.amd_factor.proofs.fill.add_column_into.Goals as goal

-- the columns before a place in the numbers up to the end of the next one
module _ {N : Type 0} (value : N → ℤ) (o : Order) (k : ℕ) (ptr : List ℕ) (rows : List N) (size : ℕ) where
  same : take (slice_index ptr k) rows ≡ take (slice_index ptr k) (take (slice_index ptr k + size) rows)
  same = sym (take-take (slice_index ptr k) (slice_index ptr k + size) rows (omega arith))

  numbers_here : AreNonNegative (map value (take (slice_index ptr k) rows)) →
      AreNonNegative (map value (take (slice_index ptr k) (take (slice_index ptr k + size) rows)))
  numbers_here = subst (λ xs. AreNonNegative (map value xs)) same

  columns_here : HoldBefore o k ptr (naturals (map value (take (slice_index ptr k) rows))) →
      HoldBefore o k ptr (naturals (map value (take (slice_index ptr k) (take (slice_index ptr k + size) rows))))
  columns_here = subst (λ xs. HoldBefore o k ptr (naturals (map value xs))) same

  parents_here : (parent : List (Option ℕ)) → TellFirst o k ptr (naturals (map value (take (slice_index ptr k) rows))) parent →
      TellFirst o k ptr (naturals (map value (take (slice_index ptr k) (take (slice_index ptr k + size) rows)))) parent
  parents_here parent = subst (λ xs. TellFirst o k ptr (naturals (map value xs)) parent) same

  plans_here : (from to : ℕ) (fresh : List ℕ) → Plans o k (naturals (map value (take (slice_index ptr k) rows))) from to fresh →
      Plans o k (naturals (map value (take (slice_index ptr k) (take (slice_index ptr k + size) rows)))) from to fresh
  plans_here from to fresh = subst (λ xs. Plans o k (naturals (map value xs)) from to fresh) same

-- how many numbers these are
size_is : {N : Type 0} (rows : List N) (fresh : List ℕ) (begin taken count : ℕ) → begin ≤ length rows →
    taken + count ≤ length rows - begin → count ≤ length fresh →
    length (take (begin + (taken + count)) rows) ≡ begin + (taken + length (take count fresh))
size_is rows fresh begin taken count low fits few =
    let a = length-take-le (begin + (taken + count)) rows (omega (arith, low, fits)) in
    let e = length-take-le count fresh few in omega (arith, a, e)

pub plan_behind-plan-requires : goal.plan_behind-plan-requires
plan_behind-plan-requires g c κs inside =
    let can = c.requires.1.0 in let front = c.requires.1.1 in (
      inside,
      (
        record { laws = can.laws; place = can.place; later = can.later; marks = front.filled.marks; long = can.long },
        record { numbers = front.numbers; links = front.filled.links; columns = front.filled.columns },
      ),
    )

pub overflow_add-size : goal.overflow_add-size
overflow_add-size g c =
    let can = c.requires.1.0 in
    let filled = c.requires.1.1 in
    let plan = c.plan_behind-plan.result in let count = c.plan_behind-plan.ensures.count in
    let ptr = c.args.lists.now.ptr.now in
    let short = taken_short g.o c.args.k (naturals (map g.N.Index.value (take (slice_index ptr c.args.k) c.args.rows.now)))
    (take plan.count c.plan_behind-plan.new.fresh) plan.from plan.to c.plan_behind-plan.ensures.plans in
    let room = filled.filled.parents.room in let same = c.plan_behind-plan.auto.fresh in let all = can.long in
    omega (arith, short, count, room, same, all)

pub returns-then-rows-begin-clause-filled : goal.returns-then-rows-begin-clause-filled
returns-then-rows-begin-clause-filled g c =
    let can = c.requires.1.0 in
    let filled = c.requires.1.1 in
    let plan = c.plan_behind-plan.result in let count = length-take-le plan.count c.plan_behind-plan.new.fresh
    c.plan_behind-plan.ensures.count in
    let more = c.if-rows-begin.true in let within = filled.within in
    passes g.o can.laws c.args.k c.args.lists.now.ptr.now
    (naturals (map g.N.Index.value (take (slice_index c.args.lists.now.ptr.now c.args.k) c.args.rows.now)))
    (take plan.count c.plan_behind-plan.new.fresh) plan.from plan.to (length c.args.rows.now) can.place filled.filled.columns
    c.plan_behind-plan.ensures.plans
    (omega (arith, count, more, within))

pub finish_column-requires : goal.finish_column-requires
finish_column-requires g c κs inside =
    let plan = c.plan_behind-plan.result in
    let size : ℕ = plan.to - plan.from + plan.count in let can = c.requires.1.0 in let front = c.requires.1.1 in
    let value = g.N.Index.value in let ptr = c.args.lists.now.ptr.now in let rows = c.args.rows.now in (
      inside,
      (
        can.fit,
        record {
          laws = can.laws;
          place = can.place;
          plans = plans_here value g.o c.args.k ptr rows size plan.from plan.to (take plan.count c.plan_behind-plan.new.fresh)
              c.plan_behind-plan.ensures.plans;
          size = size_is rows c.plan_behind-plan.new.fresh (slice_index ptr c.args.k) (plan.to - plan.from) plan.count front.within
              c.if-rows-begin.false c.plan_behind-plan.ensures.count;
          numbers = numbers_here value g.o c.args.k ptr rows size front.numbers;
          columns = columns_here value g.o c.args.k ptr rows size front.filled.columns;
          parents = parents_here value g.o c.args.k ptr rows size c.args.lists.now.parent.now front.filled.parents;
          links = front.filled.links;
        },
      ),
    )

pub returns-clause-filled : goal.returns-clause-filled
returns-clause-filled g c = grind (arith, common_steps)

pub returns-clause-rest : goal.returns-clause-rest
returns-clause-rest g c = grind (arith, common_steps)
