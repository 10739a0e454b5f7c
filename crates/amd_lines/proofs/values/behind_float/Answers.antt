-- The float is the first word, and the other words stand behind it.
use Rattle.amd_lines.proofs.FloatLemmas.{float_off}
use Rattle.amd_lines.proofs.values.behind_float.Goals as goal

pub returns-clause-word : goal.returns-clause-word
returns-clause-word c = (float_off c.args.line.now c.split_at.result.1.now c.split_at-2.result.1.now _ _ c.sign_len.result
    c.in_ok-float_len.field-0 c.blanks_end.ensures c.split_at.ensures.back c.sign_len.ensures c.split_at-2.ensures.back
    c.split_at-3.ensures.back c.in_ok-float_len.ensures.some c.in_ok-float_len.ensures.ends c.in_ok-float_len.ensures.float).1

pub returns-clause-line : goal.returns-clause-line
returns-clause-line c = (float_off c.args.line.now c.split_at.result.1.now c.split_at-2.result.1.now _ _ c.sign_len.result
    c.in_ok-float_len.field-0 c.blanks_end.ensures c.split_at.ensures.back c.sign_len.ensures c.split_at-2.ensures.back
    c.split_at-3.ensures.back c.in_ok-float_len.ensures.some c.in_ok-float_len.ensures.ends c.in_ok-float_len.ensures.float).0
