-- Each turn reads one line more.
use Rattle.std.proofs.Common.{ap}
use Rattle.std.proofs.lemmas.Result.{err_from_is_err_and}
use Rattle.amd_market.specs.Faults.{named_line}
use Rattle.amd_lines.proofs.LineLemmas.{fails-behind, fails-still, fails-telling}
use Rattle.amd_cli.proofs.ListedLines.{things-next, things-whole}
use Rattle.amd_cli.proofs.LineFaults.{fails-none, fails-unread, names-none, told-unread}
use Rattle.amd_cli.specs.Orders.{SpellsListed}
use Rattle.amd_cli.proofs.listed.read_listed.Goals as goal

pub returns-in_err-take_telling-clause-line : goal.returns-in_err-take_telling-clause-line
returns-in_err-take_telling-clause-line g c =
    let inv = c.list.invariant in
    let p = err_from_is_err_and c.from_residual.result c.from_residual.ensures.1 in
    let taken = c.in_err-take_telling.ensures in
    rw (p.1, p.2) (names-none _ (SpellsListed c.args.n) c.new-lines.result _ _ c.new-lines.ensures.source c.new-lines.ensures.lines
    (fails-unread _ _ _ _ (fails-behind _ _ _ inv.lines _ inv.takes taken.fails) taken.unread))

pub returns-then-not-branch-clause-lists : goal.returns-then-not-branch-clause-lists
returns-then-not-branch-clause-lists g c =
    things-whole _ _ c.new-lines.result _ _ _ _ c.new-lines.ensures.source c.list.invariant
    (rw c.if-not-branch.true at c.in_ok-take_telling.ensures.takes)

pub returns-in_default-clause-line : goal.returns-in_default-clause-line
returns-in_default-clause-line g c =
    let inv = c.list.invariant in
    names-none _ (SpellsListed c.args.n) c.new-lines.result _ _ c.new-lines.ensures.source c.new-lines.ensures.lines
    (fails-none _ _ _ _ _ inv.lines _ _ _ _ inv.takes inv.spells
    (rw c.if-not-branch.false at c.in_ok-take_telling.ensures.takes)
    (λ l h. (rw c.line.ensures at c.in_default.ensures) l.numbers h) c.at_line.ensures)

pub returns-in_default-push-clause-line : goal.returns-in_default-push-clause-line
returns-in_default-push-clause-line g c =
    let inv = c.list.invariant in
    let told = c.at_line-in_default-push.ensures in
    names-none _ (SpellsListed c.args.n) c.new-lines.result _ _ c.new-lines.ensures.source c.new-lines.ensures.lines
    (fails-unread _ _ _ _ (fails-behind _ _ _ inv.lines _ inv.takes
    (fails-telling _ _ _ _ _ (rw c.if-not-branch.false at c.in_ok-take_telling.ensures.takes) (ap named_line told.1)))
    (told-unread _ _ _ told tt))

pub list-preserved : goal.list-preserved
list-preserved g c =
    things-next _ _ _ _ _ _ _ _ _ c.list.invariant (rw c.if-not-branch.false at c.in_ok-take_telling.ensures.takes)
    (rw c.line.ensures at c.in-Some.ensures) c.in-Ok.ensures.items

pub returns-clause-line : goal.returns-clause-line
returns-clause-line g c =
    let inv = c.list.invariant in
    let told = c.at_line-2.ensures in
    names-none _ (SpellsListed c.args.n) c.new-lines.result _ _ c.new-lines.ensures.source c.new-lines.ensures.lines
    (fails-unread _ _ _ _ (fails-behind _ _ _ inv.lines _ inv.takes (fails-still _ _ _ (ap named_line told.1)))
    (told-unread _ _ _ told tt))
