-- The degrees are lent as a slice.
use Rattle.amd_engine_tests.proofs.tests.engine.orders.Goals as goal

pub plain_1-outcome-requires-clause-some : goal.plain_1-outcome-requires-clause-some
plain_1-outcome-requires-clause-some g c = rw c.deref.ensures.value c.degrees_of-degrees.ensures.some

pub plain_1-outcome-requires-clause-form : goal.plain_1-outcome-requires-clause-form
plain_1-outcome-requires-clause-form g c = rw c.deref.ensures.value c.degrees_of-degrees.ensures.form

pub plain_1-outcome-requires-clause-sorted : goal.plain_1-outcome-requires-clause-sorted
plain_1-outcome-requires-clause-sorted g c = rw c.deref.ensures.value c.degrees_of-degrees.ensures.sorted

pub plain_1-outcome-requires-clause-degrees : goal.plain_1-outcome-requires-clause-degrees
plain_1-outcome-requires-clause-degrees g c = rw c.deref.ensures.value c.degrees_of-degrees.ensures.degrees
