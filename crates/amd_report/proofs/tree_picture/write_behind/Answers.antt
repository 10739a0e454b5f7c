-- Two texts.
use Rattle.amd_texts.proofs.Told.{told-then}
use Rattle.amd_report.proofs.tree_picture.write_behind.Goals as goal

pub returns : goal.returns
returns g c = told-then _ _ _ c.in_ok-write_lines.ensures c.in_ok-write_foot.ensures
