-- White space right behind the front ends the float.
use Rattle.std.proofs.Common.{sym, ◌∙◌}
use Rattle.amd_lines.proofs.FloatLemmas.{scanned_ends}
use Rattle.amd_lines.proofs.values.float_len.Goals as goal

pub returns-then-is_ascii_whitespace-clause-ends : goal.returns-then-is_ascii_whitespace-clause-ends
returns-then-is_ascii_whitespace-clause-ends c = (scanned_ends c.args.text.now c.float_front-front.result.0 c.float_front-front.result.1
    c.if-front-text.true (sym c.if-is_ascii_whitespace.ensures.value) (sym c.completes.ensures ∙ c.if-completes.true)
    c.float_front-front.ensures).1

pub returns-then-is_ascii_whitespace-clause-float : goal.returns-then-is_ascii_whitespace-clause-float
returns-then-is_ascii_whitespace-clause-float c = (scanned_ends c.args.text.now c.float_front-front.result.0 c.float_front-front.result.1
    c.if-front-text.true (sym c.if-is_ascii_whitespace.ensures.value) (sym c.completes.ensures ∙ c.if-completes.true)
    c.float_front-front.ensures).2
