-- The degrees are lent as a slice.
use Rattle.amd_engine_tests.proofs.tests.sorted.order_in_place.Goals as goal

pub order_in-requires-clause-size : goal.order_in-requires-clause-size
order_in-requires-clause-size g c = rw c.as_slice-len.ensures.value c.degrees_of-degrees.ensures.size

pub order_in-requires-clause-some : goal.order_in-requires-clause-some
order_in-requires-clause-some g c = rw c.as_slice-len.ensures.value c.degrees_of-degrees.ensures.some

pub order_in-requires-clause-form : goal.order_in-requires-clause-form
order_in-requires-clause-form g c = rw c.as_slice-len.ensures.value c.degrees_of-degrees.ensures.form

pub order_in-requires-clause-sorted : goal.order_in-requires-clause-sorted
order_in-requires-clause-sorted g c = rw c.as_slice-len.ensures.value c.degrees_of-degrees.ensures.sorted

pub order_in-requires-clause-degrees : goal.order_in-requires-clause-degrees
order_in-requires-clause-degrees g c = rw c.as_slice-len.ensures.value c.degrees_of-degrees.ensures.degrees

pub order_in-requires-clause-room : goal.order_in-requires-clause-room
order_in-requires-clause-room g c = rw c.as_slice-len.ensures.value c.degrees_of-degrees.ensures.room

pub order_in-requires-2-clause-size : goal.order_in-requires-2-clause-size
order_in-requires-2-clause-size g c = rw c.as_slice-len.ensures.value c.degrees_of-degrees.ensures.size

pub order_in-requires-2-clause-some : goal.order_in-requires-2-clause-some
order_in-requires-2-clause-some g c = rw c.as_slice-len.ensures.value c.degrees_of-degrees.ensures.some

pub order_in-requires-2-clause-form : goal.order_in-requires-2-clause-form
order_in-requires-2-clause-form g c = rw c.as_slice-len.ensures.value c.degrees_of-degrees.ensures.form

pub order_in-requires-2-clause-sorted : goal.order_in-requires-2-clause-sorted
order_in-requires-2-clause-sorted g c = rw c.as_slice-len.ensures.value c.degrees_of-degrees.ensures.sorted

pub order_in-requires-2-clause-degrees : goal.order_in-requires-2-clause-degrees
order_in-requires-2-clause-degrees g c = rw c.as_slice-len.ensures.value c.degrees_of-degrees.ensures.degrees

pub order_in-requires-2-clause-room : goal.order_in-requires-2-clause-room
order_in-requires-2-clause-room g c = rw c.as_slice-len.ensures.value c.degrees_of-degrees.ensures.room
