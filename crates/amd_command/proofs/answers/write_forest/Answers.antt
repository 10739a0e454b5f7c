-- The parts are written one after another.
use Rattle.std.proofs.KnownBytes.{Appends-trans}
use Rattle.amd_command.proofs.answers.write_forest.Goals as goal

pub returns : goal.returns
returns g c =
    let tree = Appends-trans _ _ _ _ _ c.in_ok-write_all.ensures.bytes c.in_ok-write_tree.ensures in
    let heading = Appends-trans _ _ _ _ _ tree c.in_ok-write_all-2.ensures.bytes in
    let headings = Appends-trans _ _ _ _ _ heading c.in_ok-write_all-3.ensures.bytes in
    Appends-trans _ _ _ _ _ headings
    (rw (c.deref.ensures.value, c.deref-2.ensures.value, c.deref-3.ensures.value) at c.in_ok-write_supernodes.ensures)
