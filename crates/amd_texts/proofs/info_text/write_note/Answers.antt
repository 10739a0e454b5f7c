-- The lines are written one after another.
use Rattle.amd_texts.proofs.Written.{Appends-then}
use Rattle.amd_texts.proofs.info_text.write_note.Goals as goal

pub returns : goal.returns
returns g c =
    let up_to_2 = Appends-then _ _ _ _ _ c.in_ok-write_all.ensures.bytes c.in_ok-write_all-2.ensures.bytes in
    let up_to_3 = Appends-then _ _ _ _ _ up_to_2 c.in_ok-write_all-3.ensures.bytes in
    Appends-then _ _ _ _ _ up_to_3 c.in_ok-write_all-4.ensures.bytes
