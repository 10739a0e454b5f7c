-- The first word is a part of the line, and the others are those of what stands behind it.
use Rattle.std.proofs.Common.{sym, ◌∙◌}
use Rattle.std.specs.Char.{is_ascii_whitespace}
use Rattle.amd_lines.proofs.WordLemmas.{no-parts, parts-off}
use Rattle.amd_lines.proofs.words.first_word.Goals as goal

pub returns-in_err-word_start-clause-words : goal.returns-in_err-word_start-clause-words
returns-in_err-word_start-clause-words c = rw c.from_residual.ensures
    (no-parts is_ascii_whitespace c.args.line.now (sym c.word_start.ensures ∙ c.in_err-word_start.was))

pub returns-clause-words : goal.returns-clause-words
returns-clause-words c =
    (parts-off is_ascii_whitespace c.args.line.now _ _ _ _ _ _ (sym c.word_start.ensures ∙ c.in_ok-word_start.was) c.split_at.ensures.back
    c.word_end.ensures c.unwrap_or-end.ensures c.split_at-2.ensures.front c.split_at-2.ensures.back).0

pub returns-clause-shorter : goal.returns-clause-shorter
returns-clause-shorter c =
    (parts-off is_ascii_whitespace c.args.line.now _ _ _ _ _ _ (sym c.word_start.ensures ∙ c.in_ok-word_start.was) c.split_at.ensures.back
    c.word_end.ensures c.unwrap_or-end.ensures c.split_at-2.ensures.front c.split_at-2.ensures.back).1
