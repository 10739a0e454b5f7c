-- The degrees are lent as a slice.
use Rattle.amd_engine_tests.proofs.tests.sorted.order_sparing.Goals as goal

pub amd_1-requires-clause-some : goal.amd_1-requires-clause-some
amd_1-requires-clause-some g c = rw c.deref_mut.ensures.value c.degrees_of-degrees.ensures.some

pub amd_1-requires-clause-size : goal.amd_1-requires-clause-size
amd_1-requires-clause-size g c = rw c.deref_mut.ensures.value c.degrees_of-degrees.ensures.size

pub amd_1-requires-clause-form : goal.amd_1-requires-clause-form
amd_1-requires-clause-form g c = rw c.deref_mut.ensures.value c.degrees_of-degrees.ensures.form

pub amd_1-requires-clause-sorted : goal.amd_1-requires-clause-sorted
amd_1-requires-clause-sorted g c = rw c.deref_mut.ensures.value c.degrees_of-degrees.ensures.sorted

pub amd_1-requires-clause-degrees : goal.amd_1-requires-clause-degrees
amd_1-requires-clause-degrees g c = rw c.deref_mut.ensures.value c.degrees_of-degrees.ensures.degrees

pub amd_1-requires-clause-room : goal.amd_1-requires-clause-room
amd_1-requires-clause-room g c = let e = c.degrees_of-degrees.ensures in rw c.deref_mut.ensures.value (e.room, e.fits)
