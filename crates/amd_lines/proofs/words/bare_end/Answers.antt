-- Only white space is passed.
use Rattle.std.proofs.Common.{arith}
use Rattle.amd_lines.proofs.FrontLemmas.{blanks_end_line}
use Rattle.amd_lines.proofs.words.bare_end.Goals as goal

pub returns-clause-words : goal.returns-clause-words
returns-clause-words c =
    let blanks = c.blanks_end-place.ensures in
    let within = blanks.within in
    let left = c.if-place-text.false in
    let feed = c.if-text-place-ne10.false in
    (blanks_end_line c.args.text.now c.blanks_end-place.result (omega (arith, left, within)) (omega (arith, feed)) blanks).1
