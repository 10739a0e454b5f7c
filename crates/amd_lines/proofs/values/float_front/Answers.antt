-- Digits at the front are those of the whole part, and those behind a point are of the fraction.
use Rattle.std.proofs.Common.{arith}
use Rattle.amd_lines.proofs.FloatLemmas.{scanned_whole, scanned_fraction}
use Rattle.amd_lines.proofs.values.float_front.Goals as goal

pub returns-then-whole-text : goal.returns-then-whole-text
returns-then-whole-text c =
    let some = c.if-whole-eq0.false in
    scanned_whole c.args.text.now c.digits_end-whole.result (omega (arith, some)) c.digits_end-whole.ensures

pub returns : goal.returns
returns c =
    let some = c.if-whole-eq0.false in
    let left = c.if-whole-text.false in
    let point = c.if-text-whole-ne46.false in
    let within = c.digits_end-whole.ensures.within in
    let text = c.args.text.now in
    let whole = c.digits_end-whole.result in
    scanned_fraction text whole c.digits_end.result (omega (arith, left, within)) (omega (arith, point))
    (scanned_whole text whole (omega (arith, some)) c.digits_end-whole.ensures) c.digits_end.ensures
