-- The parts are written one after another.
use Rattle.std.proofs.Common.{ℕ, subst}
use Rattle.std.specs.Io.KnownBytes.{Appends}
use Rattle.amd_report.specs.Descriptions.{symmetry_line}
use Rattle.amd_texts.proofs.Written.{Appends-then}
use Rattle.amd_report.proofs.description.write_shape.Goals as goal

pub returns : goal.returns
returns g c =
    let share = subst (λ (z : ℕ). Appends (g.W.Write.contents c.write_labelled.new.out)
    (g.W.Write.contents c.write_symmetry.new.out) (symmetry_line z))
    c.symmetry_tenths.ensures c.in_ok-write_symmetry.ensures in
    let up_to_2 = Appends-then _ _ _ _ _ c.in_ok-write_labelled.ensures share in
    let up_to_3 = Appends-then _ _ _ _ _ up_to_2 c.in_ok-write_labelled-2.ensures in
    let up_to_4 = Appends-then _ _ _ _ _ up_to_3 c.in_ok-write_labelled-3.ensures in
    let up_to_5 = Appends-then _ _ _ _ _ up_to_4 c.in_ok-write_labelled-4.ensures in
    Appends-then _ _ _ _ _ up_to_5 c.in_ok-write_labelled-5.ensures
