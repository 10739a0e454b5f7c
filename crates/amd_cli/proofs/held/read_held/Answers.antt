-- Each turn reads one line more.
use Rattle.std.proofs.Common.{◌≡◌, false, replicate, rules}
use Rattle.std.proofs.lemmas.Result.{err_from_is_err_and}
use Rattle.amd_lines.proofs.LineLemmas.{fails-behind}
use Rattle.amd_cli.proofs.HeldLemmas.{held-none, held-next, held-whole}
use Rattle.amd_cli.proofs.LineFaults.{fails-none, fails-unread, names-none}
use Rattle.amd_cli.specs.Held.{SpellsRow}
use Rattle.amd_cli.proofs.held.read_held.Goals as goal

pub rows-init : goal.rows-init
rows-init g c =
    let same : c.in-Ok.marks.items ≡ replicate c.args.n false = search rules in
    held-none _ _ _ _ same

pub returns-in_err-take_telling-clause-line : goal.returns-in_err-take_telling-clause-line
returns-in_err-take_telling-clause-line g c =
    let inv = c.rows.invariant in
    let p = err_from_is_err_and c.from_residual.result c.from_residual.ensures.1 in
    let taken = c.in_err-take_telling.ensures in
    rw (p.1, p.2) (names-none _ (SpellsRow c.args.n) c.new-lines.result _ _ c.new-lines.ensures.source c.new-lines.ensures.lines
    (fails-unread _ _ _ _ (fails-behind _ _ _ inv.lines _ inv.takes taken.fails) taken.unread))

pub returns-then-not-branch-clause-marks : goal.returns-then-not-branch-clause-marks
returns-then-not-branch-clause-marks g c =
    held-whole _ c.new-lines.result _ _ _ _ _ c.new-lines.ensures.source c.rows.invariant
    (rw c.if-not-branch.true at c.in_ok-take_telling.ensures.takes)

pub returns-in_default-row_of-clause-line : goal.returns-in_default-row_of-clause-line
returns-in_default-row_of-clause-line g c =
    let inv = c.rows.invariant in
    names-none _ (SpellsRow c.args.n) c.new-lines.result _ _ c.new-lines.ensures.source c.new-lines.ensures.lines
    (fails-none _ _ _ _ _ inv.lines inv.rows _ _ _ inv.takes inv.spells
    (rw c.if-not-branch.false at c.in_ok-take_telling.ensures.takes)
    (rw c.line.ensures at c.in_default-row_of.ensures) c.at_line-in_default-row_of.ensures)

pub rows-preserved : goal.rows-preserved
rows-preserved g c =
    held-next _ _ _ _ _ _ _ _ c.rows.invariant (rw c.if-not-branch.false at c.in_ok-take_telling.ensures.takes)
    (rw c.line.ensures at c.in-Some.ensures)
