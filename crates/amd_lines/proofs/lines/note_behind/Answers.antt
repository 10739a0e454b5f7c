-- What is known of the front stays, and else the other bytes tell.
use Rattle.amd_lines.proofs.NoteLemmas.{open-more, told-more}
use Rattle.amd_lines.proofs.lines.note_behind.Goals as goal

pub returns-in-Some : goal.returns-in-Some
returns-in-Some c front h = told-more c.args.mark _ front c.args.more.now (rw c.in-Some.is at h)

pub returns-in-None : goal.returns-in-None
returns-in-None c front h = open-more c.args.mark c.note_at.result front c.args.more.now (rw c.in-None.is at h) c.note_at.ensures
