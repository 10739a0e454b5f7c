-- The lines are written one after another.
use Rattle.amd_texts.proofs.Told.{told, told-more}
use Rattle.amd_demos.proofs.demo.write_note.Goals as goal

pub returns-in_ok-write_all-in-Sorted-2 : goal.returns-in_ok-write_all-in-Sorted-2
returns-in_ok-write_all-in-Sorted-2 g c =
    let up_to_2 = told-more _ _ _ _ (told _ _ _ c.in_ok-write_all.ensures.bytes) c.in_ok-write_all-2.ensures.bytes in
    let up_to_3 = told-more _ _ _ _ up_to_2 c.in_ok-write_all-in-Sorted.ensures.bytes in
    told-more _ _ _ _ up_to_3 c.in_ok-write_all-in-Sorted-2.ensures.bytes

pub returns-in_ok-write_all-in-Jumbled-4 : goal.returns-in_ok-write_all-in-Jumbled-4
returns-in_ok-write_all-in-Jumbled-4 g c =
    let up_to_2 = told-more _ _ _ _ (told _ _ _ c.in_ok-write_all.ensures.bytes) c.in_ok-write_all-2.ensures.bytes in
    let up_to_3 = told-more _ _ _ _ up_to_2 c.in_ok-write_all-in-Jumbled.ensures.bytes in
    let up_to_4 = told-more _ _ _ _ up_to_3 c.in_ok-write_all-in-Jumbled-2.ensures.bytes in
    let up_to_5 = told-more _ _ _ _ up_to_4 c.in_ok-write_all-in-Jumbled-3.ensures.bytes in
    told-more _ _ _ _ up_to_5 c.in_ok-write_all-in-Jumbled-4.ensures.bytes
