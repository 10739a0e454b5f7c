-- The degrees that were counted are those by which the engine lays the lists; it asks for the rest as it is given.
use Rattle.std.proofs.Common.{ap, map, length, arith, le_refl, refl}
use Rattle.std.specs.Option.{option_copied}
use Rattle.amd_types.specs.declared.amd.Info.{Info}
use Rattle.amd.proofs.CountedDegrees.{counts_of, sums_are}
use Rattle.amd.proofs.Orderings.{engine_orders}
use Rattle.amd.proofs.within.order_sorted.Goals as goal

pub order_within-requires-clause-places : goal.order_within-requires-clause-places
order_within-requires-clause-places g c = c.requires.given.places

pub order_within-requires-clause-some : goal.order_within-requires-clause-some
order_within-requires-clause-some g c = c.requires.given.some

pub order_within-requires-clause-fits : goal.order_within-requires-clause-fits
order_within-requires-clause-fits g c = c.requires.fits

pub order_within-requires-clause-form : goal.order_within-requires-clause-form
order_within-requires-clause-form g c = c.requires.given.form

pub order_within-requires-clause-sorted : goal.order_within-requires-clause-sorted
order_within-requires-clause-sorted g c = c.requires.given.sorted refl

pub order_within-requires-clause-degrees : goal.order_within-requires-clause-degrees
order_within-requires-clause-degrees g c = let counted = c.requires.counted in
    counts_of (length c.args.p.now) (map g.J.Index.value c.args.a_p.now) (map g.J.Index.value c.args.a_i.now) counted.sum
    c.args.memory.now.len.items counted.degrees_are

pub order_within-requires-clause-words : goal.order_within-requires-clause-words
order_within-requires-clause-words g c =
    let counted = c.requires.counted in let held = counted.held in
    let sums = sums_are (length c.args.p.now) (map g.J.Index.value c.args.a_p.now) (map g.J.Index.value c.args.a_i.now) counted.sum
    c.args.memory.now.len.items counted.degrees_are in
    omega (arith, sums, held)

pub order_within-requires-clause-room : goal.order_within-requires-clause-room
order_within-requires-clause-room g c = c.requires.room

pub order_within-requires-clause-narrow : goal.order_within-requires-clause-narrow
order_within-requires-clause-narrow g c = c.requires.narrow

pub order_within-requires-clause-pointers : goal.order_within-requires-clause-pointers
order_within-requires-clause-pointers g c = c.requires.pointers

pub order_within-requires-clause-marks : goal.order_within-requires-clause-marks
order_within-requires-clause-marks g c = c.requires.given.marks

pub order_within-requires-clause-flag : goal.order_within-requires-clause-flag
order_within-requires-clause-flag g c = le_refl 2

pub returns-clause-orders : goal.returns-clause-orders
returns-clause-orders g c =
    let new = c.order_within.new in let counted = c.requires.counted in
    engine_orders (option_copied c.args.request.now.hold) (length c.args.p.now) c.args.request.now.control.now
    (map g.J.Index.value c.args.a_p.now) (map g.J.Index.value c.args.a_i.now) (map g.I.Index.value new.p) (map g.I.Index.value new.p_inv)
    c.args.memory.now.len.items counted.sum c.args.info.now new.info counted.degrees_are c.requires.figures counted.few
    c.order_within.ensures.compactions c.order_within.ensures.orders

pub returns-clause-status : goal.returns-clause-status
returns-clause-status g c = ap (λ (x : Info). x.status) c.order_within.ensures.orders.told

pub returns-clause-room : goal.returns-clause-room
returns-clause-room g c = c.order_within.ensures.room
