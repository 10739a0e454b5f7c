-- The lines are written one after another.
use Rattle.amd_texts.proofs.Told.{told, told-more}
use Rattle.amd_demos.proofs.demo.write_title.Goals as goal

pub returns-in_ok-write_all-in-Sorted : goal.returns-in_ok-write_all-in-Sorted
returns-in_ok-write_all-in-Sorted g c = told _ _ _ c.in_ok-write_all-in-Sorted.ensures.bytes

pub returns-in_ok-write_all-in-Jumbled-2 : goal.returns-in_ok-write_all-in-Jumbled-2
returns-in_ok-write_all-in-Jumbled-2 g c =
    told-more _ _ _ _ (told _ _ _ c.in_ok-write_all-in-Jumbled.ensures.bytes) c.in_ok-write_all-in-Jumbled-2.ensures.bytes
