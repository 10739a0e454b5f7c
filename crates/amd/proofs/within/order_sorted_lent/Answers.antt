-- As for `order_sorted`; the two lists of the memory that are not used keep their room.
use Rattle.std.proofs.Common.{ap, map, length, arith, le_refl, refl}
use Rattle.std.specs.Option.{option_copied}
use Rattle.amd_engine.specs.InPlace.{values}
use Rattle.amd_types.specs.declared.amd.Info.{Info}
use Rattle.amd.proofs.CountedDegrees.{counts_of, sums_are}
use Rattle.amd.proofs.Orderings.{engine_orders}
use Rattle.amd.proofs.within.order_sorted_lent.Goals as goal

pub order_within_lent-requires-clause-places : goal.order_within_lent-requires-clause-places
order_within_lent-requires-clause-places g c = c.requires.given.places

pub order_within_lent-requires-clause-some : goal.order_within_lent-requires-clause-some
order_within_lent-requires-clause-some g c = c.requires.given.some

pub order_within_lent-requires-clause-form : goal.order_within_lent-requires-clause-form
order_within_lent-requires-clause-form g c = c.requires.given.form

pub order_within_lent-requires-clause-sorted : goal.order_within_lent-requires-clause-sorted
order_within_lent-requires-clause-sorted g c = c.requires.given.sorted refl

pub order_within_lent-requires-clause-degrees : goal.order_within_lent-requires-clause-degrees
order_within_lent-requires-clause-degrees g c = let counted = c.requires.counted in
    counts_of (length c.args.p.now) (map g.J.Index.value c.args.a_p.now) (map g.J.Index.value c.args.a_i.now) counted.sum
    c.args.memory.now.len.items counted.degrees_are

pub order_within_lent-requires-clause-words : goal.order_within_lent-requires-clause-words
order_within_lent-requires-clause-words g c =
    let counted = c.requires.counted in let held = counted.held in
    let sums = sums_are (length c.args.p.now) (map g.J.Index.value c.args.a_p.now) (map g.J.Index.value c.args.a_i.now) counted.sum
    c.args.memory.now.len.items counted.degrees_are in
    omega (arith, sums, held)

pub order_within_lent-requires-clause-room : goal.order_within_lent-requires-clause-room
order_within_lent-requires-clause-room g c = c.requires.room

pub order_within_lent-requires-clause-narrow : goal.order_within_lent-requires-clause-narrow
order_within_lent-requires-clause-narrow g c = c.requires.narrow

pub order_within_lent-requires-clause-pointers : goal.order_within_lent-requires-clause-pointers
order_within_lent-requires-clause-pointers g c = c.requires.pointers

pub order_within_lent-requires-clause-marks : goal.order_within_lent-requires-clause-marks
order_within_lent-requires-clause-marks g c = c.requires.given.marks

pub order_within_lent-requires-clause-flag : goal.order_within_lent-requires-clause-flag
order_within_lent-requires-clause-flag g c = le_refl 2

pub returns-clause-orders : goal.returns-clause-orders
returns-clause-orders g c =
    let new = c.order_within_lent.new in let counted = c.requires.counted in
    engine_orders (option_copied c.args.request.now.hold) (length c.args.p.now) c.args.request.now.control.now
    (map g.J.Index.value c.args.a_p.now) (map g.J.Index.value c.args.a_i.now) (values new.p) (values new.p_inv)
    c.args.memory.now.len.items counted.sum c.args.info.now new.info counted.degrees_are c.requires.figures counted.few
    c.order_within_lent.ensures.compactions c.order_within_lent.ensures.orders

pub returns-clause-status : goal.returns-clause-status
returns-clause-status g c = ap (λ (x : Info). x.status) c.order_within_lent.ensures.orders.told

pub returns-clause-room : goal.returns-clause-room
returns-clause-room g c = λ n count has.
    let aside = c.order_within_lent.ensures.aside in record {
      beside = c.order_within_lent.ensures.room n count has.beside;
      nv = rw aside.0 has.nv;
      e_len = rw aside.1 has.e_len;
    }
