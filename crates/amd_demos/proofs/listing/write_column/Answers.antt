-- The lines are written one after another.
use Rattle.amd_texts.proofs.Told.{told, told-more, told-none}
use Rattle.amd_demos.proofs.listing.write_column.Goals as goal

pub returns-in_default : goal.returns-in_default
returns-in_default g c = told-none _

pub returns-in_default-2 : goal.returns-in_default-2
returns-in_default-2 g c = told-none _

pub returns : goal.returns
returns g c =
    let up_to_2 = told-more _ _ _ _ (told _ _ _ c.in_ok-writeln.ensures.bytes) c.in_ok-writeln-2.ensures.bytes in
    let up_to_3 = told-more _ _ _ _ up_to_2 c.in_ok-write_all.ensures.bytes in
    let up_to_4 = told-more _ _ _ _ up_to_3 c.in_ok-write_each.ensures in
    told-more _ _ _ _ up_to_4 c.in_ok-write_all-2.ensures.bytes
