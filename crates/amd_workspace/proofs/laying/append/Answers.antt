use Rattle.std.proofs.Common.{arith}
use Rattle.amd_workspace.proofs.laying.append.Goals as goal

pub put_row-requires-clause-inside : goal.put_row-requires-clause-inside
put_row-requires-clause-inside g c = let r = c.requires in let a = r.inside.1 in let e = c.cell_at-place.ensures.is in omega (arith, a, e)

pub overflow_add-place : goal.overflow_add-place
overflow_add-place g c =
    let r = c.requires in let a = r.inside.1 in let b = r.fits.1 in let e = c.cell_at-place.ensures.is in
    let n = g.met.U.Unsigned.narrow in omega (arith, a, b, e, n)

pub put_cell-requires-clause-fits : goal.put_cell-requires-clause-fits
put_cell-requires-clause-fits g c =
    let r = c.requires in let a = r.inside.1 in let b = r.fits.1 in let e = c.cell_at-place.ensures.is in omega (arith, a, b, e)
