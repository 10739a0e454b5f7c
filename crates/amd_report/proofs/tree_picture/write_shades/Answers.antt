-- Each turn tells one shade more.
use Rattle.std.proofs.Common.{◌++◌, []}
use Rattle.std.proofs.KnownBytes.{Appends-nil, Appends-trans}
use Rattle.amd_report.specs.Pictures.{TellsShades}
use Rattle.amd_report.proofs.tree_picture.write_shades.Goals as goal

pub shades-init : goal.shades-init
shades-init g c = ([], TellsShades.none, Appends-nil _)

pub shades-preserved : goal.shades-preserved
shades-preserved g c =
    let before = c.shades.invariant in let more = c.in_ok-write_shape.ensures in
    (before.0 ++ more.0, TellsShades.next before.1 (rw c.from.ensures at more.1), Appends-trans _ _ _ _ _ before.2 more.2)
