use Rattle.std.proofs.Common.{ℕ, ℤ, List, ◌≡◌, ◌∙◌, sym, subst, arith, length, map, take, take_all}
use Rattle.std.specs.Prelude.{slice_index}
use Rattle.std.proofs.lemmas.List.{length-take-le}
use Rattle.std.proofs.lemmas.Grind.{common_steps}
use Rattle.amd_types.specs.Naturals.{naturals}
use Rattle.amd_factor.specs.Gathering.{HoldBefore}
use Rattle.amd_factor.specs.Numbers.{AreNonNegative}
use Rattle.amd_factor.specs.Orders.{Order}
use Rattle.amd_factor.proofs.Factors.Fronts.{passes}
use Rattle.amd_factor.proofs.fill.add_column.Goals as goal

-- where the columns before a place are all of the rows, they stand in the rows as they are read
module _ {N : Type 0} (value : N → ℤ) (o : Order) (k : ℕ) (ptr : List ℕ) (items now : List N) (full : slice_index ptr k ≡ length items)
    (is : now ≡ items) where
  whole : take (slice_index ptr k) items ≡ now
  whole = take_all (slice_index ptr k) items (omega (arith, full)) ∙ sym is

  numbers_now : AreNonNegative (map value (take (slice_index ptr k) items)) → AreNonNegative (map value now)
  numbers_now = subst (λ xs. AreNonNegative (map value xs)) whole

  columns_now : HoldBefore o k ptr (naturals (map value (take (slice_index ptr k) items))) → HoldBefore o k ptr (naturals (map value now))
  columns_now = subst (λ xs. HoldBefore o k ptr (naturals (map value xs))) whole

pub plan_behind-plan-requires : goal.plan_behind-plan-requires
plan_behind-plan-requires g c κs inside =
    let q = c.requires.1.1 in let can = q.column in let front = q.front in let full = q.full.full in
    let value = g.N.Index.value in let ptr = c.args.lists.now.ptr.now in let items = c.args.rows.now.items in (
      inside,
      (
        record { laws = can.laws; place = can.place; later = can.later; marks = front.filled.marks; long = can.long },
        record {
          numbers = numbers_now value g.o c.args.k ptr items c.deref.result.now full c.deref.ensures.value front.numbers;
          links = front.filled.links;
          columns = columns_now value g.o c.args.k ptr items c.deref.result.now full c.deref.ensures.value front.filled.columns;
        },
      ),
    )

pub returns-then-room-begin-clause-filled : goal.returns-then-room-begin-clause-filled
returns-then-room-begin-clause-filled g c =
    let q = c.requires.1.1 in let can = q.column in let full = q.full.full in let plan = c.plan_behind-plan.result in
    let columns = columns_now g.N.Index.value g.o c.args.k c.args.lists.now.ptr.now c.args.rows.now.items c.deref.result.now full
    c.deref.ensures.value q.front.filled.columns in
    let count = length-take-le plan.count c.plan_behind-plan.new.fresh c.plan_behind-plan.ensures.count in
    let begin = c.len-begin.ensures in let more = c.if-room-begin.true in let within = q.full.within in
    passes g.o can.laws c.args.k c.args.lists.now.ptr.now (naturals (map g.N.Index.value c.deref.result.now))
    (take plan.count c.plan_behind-plan.new.fresh) plan.from plan.to c.args.room can.place columns
    c.plan_behind-plan.ensures.plans (omega (arith, count, begin, more, within, full))

pub returns-clause-within : goal.returns-clause-within
returns-clause-within g c = grind (arith, common_steps)

pub returns-clause-full : goal.returns-clause-full
returns-clause-full g c = grind (arith, common_steps)

pub returns-clause-filled : goal.returns-clause-filled
returns-clause-filled g c = grind (arith, common_steps)
