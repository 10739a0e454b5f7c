-- The numbers are those of the lists that are laid.
use Rattle.std.proofs.Common.{◌∙◌}
use Rattle.amd_engine_tests.proofs.tests.own_lists.order_numbers.Goals as goal

pub amd_2-requires-clause-laid : goal.amd_2-requires-clause-laid
amd_2-requires-clause-laid g c =
    let pe = c.deref_mut.ensures.value ∙ c.words_of-pe.ensures ∙ c.deref.ensures.value in
    let iw = c.deref_mut-2.ensures.value ∙ c.words_of-iw.ensures ∙ c.deref-2.ensures.value in
    let len = c.deref_mut-3.ensures.value ∙ c.cells_of-len.ensures ∙ c.deref-3.ensures.value in
    rw (pe, iw, len) c.laid_of-laid.ensures.laid

pub amd_2-requires-clause-graph : goal.amd_2-requires-clause-graph
amd_2-requires-clause-graph g c =
    let pe = c.deref_mut.ensures.value ∙ c.words_of-pe.ensures ∙ c.deref.ensures.value in
    let iw = c.deref_mut-2.ensures.value ∙ c.words_of-iw.ensures ∙ c.deref-2.ensures.value in
    let len = c.deref_mut-3.ensures.value ∙ c.cells_of-len.ensures ∙ c.deref-3.ensures.value in
    rw (pe, iw, len) c.laid_of-laid.ensures.graph
