-- The first word begins where the first byte stands that is no white space.
use Rattle.std.proofs.Common.{sym, ◌∙◌}
use Rattle.amd_lines.proofs.NoteLemmas.{front-open, note-told, note-plain}
use Rattle.amd_lines.proofs.lines.note_at.Goals as goal

pub returns-in_err-place : goal.returns-in_err-place
returns-in_err-place c = rw c.from_residual.ensures (front-open c.args.front.now (sym c.word_start.ensures ∙ c.in_err-place.was))

pub returns-in-None : goal.returns-in-None
returns-in-None c = rw c.in-None.is (note-plain c.args.front.now _ (sym c.word_start.ensures ∙ c.in_ok-place.was))

pub returns-in-Some : goal.returns-in-Some
returns-in-Some c = rw c.in-Some.is (note-told c.args.front.now _ c.in-Some.byte (sym c.word_start.ensures ∙ c.in_ok-place.was))
