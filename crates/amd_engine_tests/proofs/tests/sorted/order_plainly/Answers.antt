-- The degrees are lent as a slice.
use Rattle.amd_engine_tests.proofs.tests.sorted.order_plainly.Goals as goal

pub plain_1-requires-clause-some : goal.plain_1-requires-clause-some
plain_1-requires-clause-some g c = rw c.deref.ensures.value c.degrees_of-degrees.ensures.some

pub plain_1-requires-clause-size : goal.plain_1-requires-clause-size
plain_1-requires-clause-size g c = rw c.deref.ensures.value c.degrees_of-degrees.ensures.size

pub plain_1-requires-clause-form : goal.plain_1-requires-clause-form
plain_1-requires-clause-form g c = rw c.deref.ensures.value c.degrees_of-degrees.ensures.form

pub plain_1-requires-clause-sorted : goal.plain_1-requires-clause-sorted
plain_1-requires-clause-sorted g c = rw c.deref.ensures.value c.degrees_of-degrees.ensures.sorted

pub plain_1-requires-clause-degrees : goal.plain_1-requires-clause-degrees
plain_1-requires-clause-degrees g c = rw c.deref.ensures.value c.degrees_of-degrees.ensures.degrees
