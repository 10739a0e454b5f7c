use Rattle.std.proofs.Common.{map, arith}
use Rattle.std.proofs.lemmas.List.{length-map}
use Rattle.amd_edges.proofs.Forms.{pointer_within}
use Rattle.amd_input.proofs.aat.degrees_of.Goals as goal

pub count_degrees-diagonals-requires-clause-fits : goal.count_degrees-diagonals-requires-clause-fits
count_degrees-diagonals-requires-clause-fits g c =
    let within = pointer_within c.args.size (map g.I.Index.value c.args.a_p.now) (map g.I.Index.value c.args.a_i.now) c.requires.input.form
    c.args.size (omega arith) in
    let long = length-map c.args.a_i.now g.I.Index.value in let short = c.well_formed in let size = c.ranges.size.fits in
    (omega (arith, size), omega (arith, within, long, short))
