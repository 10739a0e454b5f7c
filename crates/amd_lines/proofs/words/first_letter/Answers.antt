-- The first word begins where the first byte stands that is no white space.
use Rattle.std.proofs.Common.{sym, ◌∙◌}
use Rattle.std.specs.Char.{is_ascii_whitespace}
use Rattle.amd_lines.proofs.WordLemmas.{no-parts, parts-head}
use Rattle.amd_lines.proofs.words.first_letter.Goals as goal

pub returns-in_err-place : goal.returns-in_err-place
returns-in_err-place c = rw c.from_residual.ensures
    (no-parts is_ascii_whitespace c.args.line.now (sym c.word_start.ensures ∙ c.in_err-place.was))

pub returns : goal.returns
returns c = parts-head is_ascii_whitespace c.args.line.now _ (sym c.word_start.ensures ∙ c.in_ok-place.was)
