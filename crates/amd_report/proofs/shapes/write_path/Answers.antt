-- The head, the lines and the foot.
use Rattle.std.proofs.Common.{◌++◌, ◌≤◌, ◌*◌, length, refl, subst, sym}
use Rattle.std.specs.Prelude.{codes}
use Rattle.std.proofs.KnownBytes.{Appends-trans}
use Rattle.std.proofs.lemmas.Grind.{div_ceil_times}
use Rattle.amd_report.specs.Pictures.{path_head}
use Rattle.amd_report.proofs.shapes.write_path.Goals as goal

pub returns : goal.returns
returns g c =
    let lines = c.in_ok-write_lines.ensures in (
      path_head c.args.colour.now c.args.opacity ++ lines.0 ++ codes "\"/>\n",
      record {
        lines = c.div_ceil.result;
        enough = subst (λ z. length c.args.kinds.now ≤ z * c.args.side) (sym c.div_ceil.ensures)
            (div_ceil_times (length c.args.kinds.now) c.args.side c.requires.side).0;
        shape = lines.0;
        tells = lines.1;
        is = refl;
      },
      Appends-trans _ _ _ _ _ (Appends-trans _ _ _ _ _ c.in_ok-begin_path.ensures lines.2) c.in_ok-write_all.ensures.bytes,
    )
