-- Each turn passes a number more.
use Rattle.amd_lines.proofs.FrontLemmas.{stays_none, stays_both}
use Rattle.amd_market.proofs.EntryLemmas.{values_none, values_more}
use Rattle.amd_market.proofs.entries.behind_values.Goals as goal

pub words-init : goal.words-init
words-init c = (values_none c.args.text.now, stays_none c.args.text.now)

pub words-preserved : goal.words-preserved
words-preserved c =
    let inv = c.words.invariant in
    let word = c.in_ok-left.ensures.word in (
      values_more _ _ _ _ _ inv.0 word.1 word.2,
      stays_both _ _ _ inv.1 c.in_ok-left.ensures.line,
    )
