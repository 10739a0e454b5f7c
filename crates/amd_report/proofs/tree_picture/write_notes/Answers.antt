-- Two lines.
use Rattle.amd_texts.proofs.Told.{told-then}
use Rattle.amd_report.proofs.tree_picture.write_notes.Goals as goal

pub returns : goal.returns
returns g c = told-then _ _ _ c.in_ok-write_note.ensures c.in_ok-write_note-2.ensures
