-- the goals of cards::spelled_sizes.
use Rattle.amd_market.proofs.ThirdLine.{no-rows, no-columns, no-entries, sizes-whole}
use Rattle.amd_market.proofs.cards.spelled_sizes.Goals as goal

pub returns-in_err-rows : goal.returns-in_err-rows
returns-in_err-rows c = rw c.from_residual.ensures (no-rows _ c.in_err-rows.ensures)

pub returns-in_err-columns : goal.returns-in_err-columns
returns-in_err-columns c =
    let rows = c.in_ok-rows.ensures in
    rw c.from_residual-in_err-columns.ensures (no-columns _ _ rows.0 rows.1 c.in_err-columns.ensures)

pub returns-in_err-entries : goal.returns-in_err-entries
returns-in_err-entries c =
    let rows = c.in_ok-rows.ensures in
    let columns = c.in_ok-columns.ensures in
    rw c.from_residual-in_err-entries.ensures (no-entries _ _ _ rows.0 columns.0 rows.1 columns.1 c.in_err-entries.ensures)

pub returns : goal.returns
returns c =
    let rows = c.in_ok-rows.ensures in
    let columns = c.in_ok-columns.ensures in
    let entries = c.in_ok-entries.ensures in
    sizes-whole _ _ _ _ rows.0 columns.0 entries.0 _ _ _ rows.1 columns.1 entries.1 rows.2 columns.2 entries.2
