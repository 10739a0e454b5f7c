-- The shapes of the three kinds.
use Rattle.std.proofs.Common.{◌++◌, refl}
use Rattle.std.proofs.KnownBytes.{Appends-trans}
use Rattle.amd_report.proofs.drawing.write_cells.Goals as goal

pub returns : goal.returns
returns g c =
    let a = c.in_ok-write_shape.ensures in let b = c.in_ok-write_shape-2.ensures in let d = c.in_ok-write_shape-3.ensures in (
      a.0 ++ b.0 ++ d.0,
      record { entries = a.0; fill = b.0; both = d.0; tells_entries = a.1; tells_fill = b.1; tells_both = d.1; is = refl },
      Appends-trans _ _ _ _ _ (Appends-trans _ _ _ _ _ a.2 b.2) d.2,
    )
