-- Two texts.
use Rattle.amd_texts.proofs.Told.{told, told-then}
use Rattle.amd_report.proofs.tree_picture.write_merged.Goals as goal

pub returns : goal.returns
returns g c = told-then _ _ _ (told _ _ _ c.in_ok-write.ensures.bytes) (told _ _ _ c.in_ok-writeln.ensures.bytes)
