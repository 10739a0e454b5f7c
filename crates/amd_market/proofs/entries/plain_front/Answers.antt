-- The row and the column are on one line.
use Rattle.amd_lines.proofs.FrontLemmas.{stays_both}
use Rattle.amd_market.proofs.entries.plain_front.Goals as goal

pub returns-clause-line : goal.returns-clause-line
returns-clause-line c = stays_both c.args.text.now c.in_ok-row.rest.now c.in_ok-column.rest.now c.in_ok-row.ensures.line
    c.in_ok-column.ensures.line
