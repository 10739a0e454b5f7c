-- Each byte is a step of the reader, and white space ends it.
use Rattle.std.proofs.Common.{◌+◌, ℕ, subst, sym, ◌∙◌}
use Rattle.amd_lines.specs.Words.{Scanned}
use Rattle.amd_lines.proofs.FloatLemmas.{scanned_more, scanned_ends}
use Rattle.amd_lines.proofs.values.float_end.Goals as goal

pub returns-then-completes-clause-ends : goal.returns-then-completes-clause-ends
returns-then-completes-clause-ends c = (scanned_ends c.args.text.now c.bytes.place c.bytes.state c.bytes-test.true
    (sym c.if-is_ascii_whitespace.ensures.value) (sym c.completes.ensures ∙ c.if-completes.true) c.bytes.invariant).1

pub returns-then-completes-clause-float : goal.returns-then-completes-clause-float
returns-then-completes-clause-float c = (scanned_ends c.args.text.now c.bytes.place c.bytes.state c.bytes-test.true
    (sym c.if-is_ascii_whitespace.ensures.value) (sym c.completes.ensures ∙ c.if-completes.true) c.bytes.invariant).2

pub bytes-preserved : goal.bytes-preserved
bytes-preserved c =
    let k : ℕ = c.bytes.place in
    subst (Scanned c.args.text.now (k + 1)) (sym c.next_state-state.ensures) (scanned_more c.args.text.now k c.bytes.state
    c.bytes-test.true (sym c.if-is_ascii_whitespace.ensures.value) c.bytes.invariant)
