use Rattle.std.proofs.Common.{◌≤◌, ◌+◌, sym, ◌∙◌, arith, length, le_of_eq, le_trans}
use Rattle.std.proofs.lemmas.Bool.{lt-ltb, le-leb}
use Rattle.amd_elements.specs.Element.{front_of}
use Rattle.amd_elements.proofs.RoundWords.{front_short}
use Rattle.amd_elements.proofs.fitting.fits.Goals as goal

pub returns-then-words-gt0-clause-fits : goal.returns-then-words-gt0-clause-fits
returns-then-words-gt0-clause-fits g c =
    let some = c.if-words-gt0.true in let is = c.visit_around.ensures.held.left_is in let end = c.requires.end.0 in
    let short = front_short c.args.iw.now c.args.nv.now c.args.pe.now c.args.len.now c.args.pivot c.args.n_elements in
    let fits : c.args.free + length (front_of c.args.iw.now c.args.nv.now c.args.pe.now c.args.len.now c.args.pivot c.args.n_elements)
    ≤ length c.args.iw.now = omega (arith, some, is, short, end) in lt-ltb _ _ some ∙ sym (le-leb _ _ fits)

pub visit_around-requires-clause-lists : goal.visit_around-requires-clause-lists
visit_around-requires-clause-lists g c = c.requires.around.lists

pub visit_around-requires-clause-pivot : goal.visit_around-requires-clause-pivot
visit_around-requires-clause-pivot g c = c.requires.around.pivot.0

pub visit_around-requires-clause-end : goal.visit_around-requires-clause-end
visit_around-requires-clause-end g c = c.requires.end.0

pub room_beyond_front-requires-clause-end : goal.room_beyond_front-requires-clause-end
room_beyond_front-requires-clause-end g c = le_trans c.requires.end.0 (le_of_eq (sym c.visit_around.ensures.lengths.0))
