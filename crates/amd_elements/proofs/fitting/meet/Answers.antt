use Rattle.std.proofs.Common.{sym, ◌∙◌}
use Rattle.amd_elements.proofs.Meeting.{meets_open, meets_other}
use Rattle.amd_elements.proofs.fitting.meet.Goals as goal

pub returns-then-is_open : goal.returns-then-is_open
returns-then-is_open g c = meets_open c.args.nv.now c.enter.new.nv c.args.j c.args.left c.saturating_sub.result
    (sym c.is_open.ensures.is ∙ c.if-is_open.true) c.enter.ensures.long c.enter.ensures.sizes c.enter.ensures.front c.saturating_sub.ensures

pub returns : goal.returns
returns g c = meets_other c.args.nv.now c.args.j c.args.left (sym c.is_open.ensures.is ∙ c.if-is_open.false)
