-- The number is that of the first word, and the other words stand behind it.
use Rattle.std.proofs.Common.{take, ◌∷◌, ap, sym, ◌∙◌}
use Rattle.amd_lines.specs.Words.{words}
use Rattle.amd_lines.proofs.FrontLemmas.{word_off, word_stays}
use Rattle.amd_lines.proofs.words.first_number.Goals as goal

pub returns-clause-word : goal.returns-clause-word
returns-clause-word c =
    let text = c.split_at.result.1.now in
    let e = c.in_ok-number.end in (
      take e text,
      word_off c.args.line.now text _ e c.blanks_end.ensures c.split_at.ensures.back
          c.in_ok-number.ensures.some c.in_ok-number.ensures.ends
          ∙ ap (λ z. take e text ∷ words z) (sym c.split_at-2.ensures.back),
      c.in_ok-number.ensures.spells,
    )

pub returns-clause-line : goal.returns-clause-line
returns-clause-line c = word_stays c.args.line.now c.split_at.result.1.now _ _ c.in_ok-number.end c.blanks_end.ensures
    c.split_at.ensures.back c.split_at-2.ensures.back c.in_ok-number.ensures.ends
