-- The lists are lent one by one.
use Rattle.amd_engine_tests.proofs.tests.laid.order_laid.Goals as goal

pub amd_2_from-requires-clause-some : goal.amd_2_from-requires-clause-some
amd_2_from-requires-clause-some g c = rw c.deref_mut-3.ensures.value c.laid_of-laid.ensures.size.1

pub amd_2_from-requires-clause-laid : goal.amd_2_from-requires-clause-laid
amd_2_from-requires-clause-laid g c =
    rw (c.deref_mut.ensures.value, c.deref_mut-2.ensures.value, c.deref_mut-3.ensures.value) c.laid_of-laid.ensures.laid

pub amd_2_from-requires-clause-graph : goal.amd_2_from-requires-clause-graph
amd_2_from-requires-clause-graph g c =
    rw (c.deref_mut.ensures.value, c.deref_mut-2.ensures.value, c.deref_mut-3.ensures.value) c.laid_of-laid.ensures.graph

pub amd_2_from-requires-clause-room : goal.amd_2_from-requires-clause-room
amd_2_from-requires-clause-room g c = rw (c.deref_mut-2.ensures.value, c.deref_mut-3.ensures.value) c.laid_of-laid.ensures.room

pub amd_2_from-requires-clause-narrow : goal.amd_2_from-requires-clause-narrow
amd_2_from-requires-clause-narrow g c = rw (c.deref_mut-2.ensures.value, c.deref_mut-3.ensures.value) c.laid_of-laid.ensures.wide
