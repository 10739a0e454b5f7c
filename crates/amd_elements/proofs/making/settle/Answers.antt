use Rattle.amd_elements.proofs.making.settle.Goals as goal

pub put_row-requires-clause-inside : goal.put_row-requires-clause-inside
put_row-requires-clause-inside g c = c.requires.row.0

pub put_row-requires-clause-small : goal.put_row-requires-clause-small
put_row-requires-clause-small g c = c.requires.order.1

pub put_flip-requires-clause-inside : goal.put_flip-requires-clause-inside
put_flip-requires-clause-inside g c = c.requires.row.1

pub put_flip-requires-clause-small : goal.put_flip-requires-clause-small
put_flip-requires-clause-small g c = c.requires.few

pub overflow_sub-end : goal.overflow_sub-end
overflow_sub-end g c = c.requires.order.0

pub put_cell-requires-clause-inside : goal.put_cell-requires-clause-inside
put_cell-requires-clause-inside g c = c.requires.row.2

pub put_cell-requires-clause-fits : goal.put_cell-requires-clause-fits
put_cell-requires-clause-fits g c = c.requires.fits

pub returns-clause-starts : goal.returns-clause-starts
returns-clause-starts g c = c.put_row.ensures

pub returns-clause-counts : goal.returns-clause-counts
returns-clause-counts g c = c.put_flip.ensures

pub returns-clause-lengths : goal.returns-clause-lengths
returns-clause-lengths g c = c.put_cell.ensures
