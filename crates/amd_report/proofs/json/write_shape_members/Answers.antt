-- The parts are written one after another.
use Rattle.std.proofs.Common.{ℕ, subst}
use Rattle.std.specs.Prelude.{codes}
use Rattle.std.specs.Io.KnownBytes.{Appends}
use Rattle.amd_report.specs.Descriptions.{tenths}
use Rattle.amd_report.specs.Json.{member}
use Rattle.amd_texts.proofs.Written.{Appends-then}
use Rattle.amd_report.proofs.json.write_shape_members.Goals as goal

pub returns : goal.returns
returns g c =
    let share = subst (λ (z : ℕ). Appends (g.W.Write.contents c.write_member.new.out)
    (g.W.Write.contents c.write_symmetry_member.new.out) (member (codes ",") (codes "pattern_symmetry_percent") (tenths z)))
    c.symmetry_tenths.ensures c.in_ok-write_symmetry_member.ensures in
    let up_to_2 = Appends-then _ _ _ _ _ c.in_ok-write_member.ensures share in
    let up_to_3 = Appends-then _ _ _ _ _ up_to_2 c.in_ok-write_member-2.ensures in
    let up_to_4 = Appends-then _ _ _ _ _ up_to_3 c.in_ok-write_member-3.ensures in
    let up_to_5 = Appends-then _ _ _ _ _ up_to_4 c.in_ok-write_member-4.ensures in
    Appends-then _ _ _ _ _ up_to_5 c.in_ok-write_member-5.ensures
