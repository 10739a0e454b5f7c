-- The lines are written one after another.
use Rattle.amd_texts.proofs.Told.{told, told-then}
use Rattle.amd_demos.proofs.demo.write_size.Goals as goal

pub returns : goal.returns
returns g c = told-then _ _ _ (told _ _ _ c.in_ok-writeln.ensures.bytes) c.in_ok-write_note.ensures
