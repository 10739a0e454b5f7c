use Rattle.std.proofs.Common.{arith, refl}
use Rattle.amd_engine.proofs.amd_1.amd_1.Goals as goal

pub holds-requires : goal.holds-requires
holds-requires g c = let r = c.requires.room in let a = r.0 in let b = r.1 in omega (arith, a, b)

pub order_in-requires-clause-fits : goal.order_in-requires-clause-fits
order_in-requires-clause-fits g c = c.requires.fits

pub order_in-requires-clause-size : goal.order_in-requires-clause-size
order_in-requires-clause-size g c = c.requires.size

pub order_in-requires-clause-some : goal.order_in-requires-clause-some
order_in-requires-clause-some g c = c.requires.some

pub order_in-requires-clause-form : goal.order_in-requires-clause-form
order_in-requires-clause-form g c = c.requires.form

pub order_in-requires-clause-sorted : goal.order_in-requires-clause-sorted
order_in-requires-clause-sorted g c = c.requires.sorted

pub order_in-requires-clause-degrees : goal.order_in-requires-clause-degrees
order_in-requires-clause-degrees g c = c.requires.degrees

pub order_in-requires-clause-room : goal.order_in-requires-clause-room
order_in-requires-clause-room g c = c.requires.room.0

pub order_in-requires-clause-narrow : goal.order_in-requires-clause-narrow
order_in-requires-clause-narrow g c = (c.holds.ensures.0 c.if-holds.true).0

pub order_in-requires-clause-flag : goal.order_in-requires-clause-flag
order_in-requires-clause-flag g c = omega arith

pub order_in-requires-clause-marks : goal.order_in-requires-clause-marks
order_in-requires-clause-marks g c = c.requires.marks

pub returns-then-holds-clause-orders : goal.returns-then-holds-clause-orders
returns-then-holds-clause-orders g c = c.order_in.ensures.orders

pub returns-then-holds-clause-compactions : goal.returns-then-holds-clause-compactions
returns-then-holds-clause-compactions g c = c.order_in.ensures.compactions

pub returns-then-holds-clause-refused : goal.returns-then-holds-clause-refused
returns-then-holds-clause-refused g c = c.order_in.ensures.refused

pub returns-then-holds-clause-degrees : goal.returns-then-holds-clause-degrees
returns-then-holds-clause-degrees g c = refl

pub holds-requires-2 : goal.holds-requires-2
holds-requires-2 g c = let r = c.requires.room in let a = r.0 in let b = r.1 in omega (arith, a, b)

pub order_in-requires-then-holds-2-clause-fits : goal.order_in-requires-then-holds-2-clause-fits
order_in-requires-then-holds-2-clause-fits g c = c.requires.fits

pub order_in-requires-then-holds-2-clause-size : goal.order_in-requires-then-holds-2-clause-size
order_in-requires-then-holds-2-clause-size g c = c.requires.size

pub order_in-requires-then-holds-2-clause-some : goal.order_in-requires-then-holds-2-clause-some
order_in-requires-then-holds-2-clause-some g c = c.requires.some

pub order_in-requires-then-holds-2-clause-form : goal.order_in-requires-then-holds-2-clause-form
order_in-requires-then-holds-2-clause-form g c = c.requires.form

pub order_in-requires-then-holds-2-clause-sorted : goal.order_in-requires-then-holds-2-clause-sorted
order_in-requires-then-holds-2-clause-sorted g c = c.requires.sorted

pub order_in-requires-then-holds-2-clause-degrees : goal.order_in-requires-then-holds-2-clause-degrees
order_in-requires-then-holds-2-clause-degrees g c = c.requires.degrees

pub order_in-requires-then-holds-2-clause-room : goal.order_in-requires-then-holds-2-clause-room
order_in-requires-then-holds-2-clause-room g c = c.requires.room.0

pub order_in-requires-then-holds-2-clause-narrow : goal.order_in-requires-then-holds-2-clause-narrow
order_in-requires-then-holds-2-clause-narrow g c = (c.holds-2.ensures.0 c.if-holds-2.true).0

pub order_in-requires-then-holds-2-clause-flag : goal.order_in-requires-then-holds-2-clause-flag
order_in-requires-then-holds-2-clause-flag g c = omega arith

pub order_in-requires-then-holds-2-clause-marks : goal.order_in-requires-then-holds-2-clause-marks
order_in-requires-then-holds-2-clause-marks g c = c.requires.marks

pub returns-then-holds-2-clause-orders : goal.returns-then-holds-2-clause-orders
returns-then-holds-2-clause-orders g c = c.order_in-then-holds-2.ensures.orders

pub returns-then-holds-2-clause-compactions : goal.returns-then-holds-2-clause-compactions
returns-then-holds-2-clause-compactions g c = c.order_in-then-holds-2.ensures.compactions

pub returns-then-holds-2-clause-refused : goal.returns-then-holds-2-clause-refused
returns-then-holds-2-clause-refused g c = c.order_in-then-holds-2.ensures.refused

pub returns-then-holds-2-clause-degrees : goal.returns-then-holds-2-clause-degrees
returns-then-holds-2-clause-degrees g c = refl

pub holds-requires-3 : goal.holds-requires-3
holds-requires-3 g c = let r = c.requires.room in let a = r.0 in let b = r.1 in omega (arith, a, b)

pub order_in-requires-then-holds-3-clause-fits : goal.order_in-requires-then-holds-3-clause-fits
order_in-requires-then-holds-3-clause-fits g c = c.requires.fits

pub order_in-requires-then-holds-3-clause-size : goal.order_in-requires-then-holds-3-clause-size
order_in-requires-then-holds-3-clause-size g c = c.requires.size

pub order_in-requires-then-holds-3-clause-some : goal.order_in-requires-then-holds-3-clause-some
order_in-requires-then-holds-3-clause-some g c = c.requires.some

pub order_in-requires-then-holds-3-clause-form : goal.order_in-requires-then-holds-3-clause-form
order_in-requires-then-holds-3-clause-form g c = c.requires.form

pub order_in-requires-then-holds-3-clause-sorted : goal.order_in-requires-then-holds-3-clause-sorted
order_in-requires-then-holds-3-clause-sorted g c = c.requires.sorted

pub order_in-requires-then-holds-3-clause-degrees : goal.order_in-requires-then-holds-3-clause-degrees
order_in-requires-then-holds-3-clause-degrees g c = c.requires.degrees

pub order_in-requires-then-holds-3-clause-room : goal.order_in-requires-then-holds-3-clause-room
order_in-requires-then-holds-3-clause-room g c = c.requires.room.0

pub order_in-requires-then-holds-3-clause-narrow : goal.order_in-requires-then-holds-3-clause-narrow
order_in-requires-then-holds-3-clause-narrow g c = (c.holds-3.ensures.0 c.if-holds-3.true).0

pub order_in-requires-then-holds-3-clause-flag : goal.order_in-requires-then-holds-3-clause-flag
order_in-requires-then-holds-3-clause-flag g c = omega arith

pub order_in-requires-then-holds-3-clause-marks : goal.order_in-requires-then-holds-3-clause-marks
order_in-requires-then-holds-3-clause-marks g c = c.requires.marks

pub returns-then-holds-3-clause-orders : goal.returns-then-holds-3-clause-orders
returns-then-holds-3-clause-orders g c = c.order_in-then-holds-3.ensures.orders

pub returns-then-holds-3-clause-compactions : goal.returns-then-holds-3-clause-compactions
returns-then-holds-3-clause-compactions g c = c.order_in-then-holds-3.ensures.compactions

pub returns-then-holds-3-clause-refused : goal.returns-then-holds-3-clause-refused
returns-then-holds-3-clause-refused g c = c.order_in-then-holds-3.ensures.refused

pub returns-then-holds-3-clause-degrees : goal.returns-then-holds-3-clause-degrees
returns-then-holds-3-clause-degrees g c = refl

pub holds-requires-4 : goal.holds-requires-4
holds-requires-4 g c = let r = c.requires.room in let a = r.0 in let b = r.1 in omega (arith, a, b)

pub order_in-requires-then-holds-4-clause-fits : goal.order_in-requires-then-holds-4-clause-fits
order_in-requires-then-holds-4-clause-fits g c = c.requires.fits

pub order_in-requires-then-holds-4-clause-size : goal.order_in-requires-then-holds-4-clause-size
order_in-requires-then-holds-4-clause-size g c = c.requires.size

pub order_in-requires-then-holds-4-clause-some : goal.order_in-requires-then-holds-4-clause-some
order_in-requires-then-holds-4-clause-some g c = c.requires.some

pub order_in-requires-then-holds-4-clause-form : goal.order_in-requires-then-holds-4-clause-form
order_in-requires-then-holds-4-clause-form g c = c.requires.form

pub order_in-requires-then-holds-4-clause-sorted : goal.order_in-requires-then-holds-4-clause-sorted
order_in-requires-then-holds-4-clause-sorted g c = c.requires.sorted

pub order_in-requires-then-holds-4-clause-degrees : goal.order_in-requires-then-holds-4-clause-degrees
order_in-requires-then-holds-4-clause-degrees g c = c.requires.degrees

pub order_in-requires-then-holds-4-clause-room : goal.order_in-requires-then-holds-4-clause-room
order_in-requires-then-holds-4-clause-room g c = c.requires.room.0

pub order_in-requires-then-holds-4-clause-narrow : goal.order_in-requires-then-holds-4-clause-narrow
order_in-requires-then-holds-4-clause-narrow g c = (c.holds-4.ensures.0 c.if-holds-4.true).0

pub order_in-requires-then-holds-4-clause-flag : goal.order_in-requires-then-holds-4-clause-flag
order_in-requires-then-holds-4-clause-flag g c = omega arith

pub order_in-requires-then-holds-4-clause-marks : goal.order_in-requires-then-holds-4-clause-marks
order_in-requires-then-holds-4-clause-marks g c = c.requires.marks

pub returns-then-holds-4-clause-orders : goal.returns-then-holds-4-clause-orders
returns-then-holds-4-clause-orders g c = c.order_in-then-holds-4.ensures.orders

pub returns-then-holds-4-clause-compactions : goal.returns-then-holds-4-clause-compactions
returns-then-holds-4-clause-compactions g c = c.order_in-then-holds-4.ensures.compactions

pub returns-then-holds-4-clause-refused : goal.returns-then-holds-4-clause-refused
returns-then-holds-4-clause-refused g c = c.order_in-then-holds-4.ensures.refused

pub returns-then-holds-4-clause-degrees : goal.returns-then-holds-4-clause-degrees
returns-then-holds-4-clause-degrees g c = refl

pub returns-clause-refused : goal.returns-clause-refused
returns-clause-refused g c = refl

pub returns-clause-degrees : goal.returns-clause-degrees
returns-clause-degrees g c = refl
