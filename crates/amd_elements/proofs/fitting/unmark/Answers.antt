use Rattle.std.proofs.Common.{sym, ◌∙◌}
use Rattle.amd_elements.proofs.Meeting.{unmarks_one, unmarks_other}
use Rattle.amd_elements.proofs.fitting.unmark.Goals as goal

pub returns-then-is_marked : goal.returns-then-is_marked
returns-then-is_marked g c = unmarks_one c.args.nv.now c.leave.new.nv c.args.j c.leave.ensures.long c.leave.ensures.sizes
    c.leave.ensures.front

pub returns-else-is_marked : goal.returns-else-is_marked
returns-else-is_marked g c = unmarks_other c.args.nv.now c.args.j (sym c.is_marked.ensures ∙ c.if-is_marked.false)
