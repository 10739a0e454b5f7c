use Rattle.amd_factor.proofs.Meetings.ThinRows.{all-kept, thinned-by}
use Rattle.amd_factor.proofs.thinning.thin_row.Goals as goal

pub returns-then-end-begin-le-FEW-clause-thinned : goal.returns-then-end-begin-le-FEW-clause-thinned
returns-then-end-begin-le-FEW-clause-thinned c =
    all-kept c.args.begin c.args.end c.args.first c.args.parent.now c.args.lists.now c.if-first-begin.true c.requires.range.1

pub returns-clause-thinned : goal.returns-clause-thinned
returns-clause-thinned c =
    thinned-by c.args.begin c.args.end c.args.first c.keep_unmarked.result c.args.stamp c.args.parent.now c.args.mark.now
    c.mark_parents.new.mark c.args.lists.now c.keep_unmarked.new.lists c.requires.range.2 c.requires.unmarked c.mark_parents.ensures.marks
    c.keep_unmarked.ensures
