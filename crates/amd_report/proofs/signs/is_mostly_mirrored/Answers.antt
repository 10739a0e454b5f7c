use Rattle.amd_report.proofs.Passing.{form-rising}
use Rattle.amd_report.proofs.signs.is_mostly_mirrored.Goals as goal

pub lacks_mirror-requires-clause-form : goal.lacks_mirror-requires-clause-form
lacks_mirror-requires-clause-form c = form-rising c.args.n c.args.a_p.now c.args.a_i.now c.requires.form c.requires.sorted
