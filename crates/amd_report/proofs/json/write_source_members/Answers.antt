-- The parts are written one after another.
use Rattle.std.proofs.Common.{ℕ, List, subst}
use Rattle.std.specs.Prelude.{codes}
use Rattle.std.specs.Io.KnownBytes.{Appends}
use Rattle.amd_report.specs.Json.{member, quoted}
use Rattle.amd_texts.proofs.Written.{Appends-then}
use Rattle.amd_report.proofs.json.write_source_members.Goals as goal

pub returns : goal.returns
returns g c =
    let format = subst (λ (z : List ℕ). Appends (g.W.Write.contents c.args.out.now)
    (g.W.Write.contents c.write_text_member.new.out) (member (codes ",") (codes "format") (quoted z)))
    c.format_name-format.ensures c.in_ok-write_text_member.ensures in
    let field = subst (λ (z : List ℕ). Appends (g.W.Write.contents c.write_text_member.new.out)
    (g.W.Write.contents c.write_text_member-2.new.out) (member (codes ",") (codes "field") (quoted z)))
    c.field_name-field.ensures c.in_ok-write_text_member-2.ensures in
    let symmetry = subst (λ (z : List ℕ). Appends (g.W.Write.contents c.write_text_member-2.new.out)
    (g.W.Write.contents c.write_text_member-3.new.out) (member (codes ",") (codes "symmetry") (quoted z)))
    c.symmetry_name-symmetry.ensures c.in_ok-write_text_member-3.ensures in
    let up_to_2 = Appends-then _ _ _ _ _ format field in
    Appends-then _ _ _ _ _ up_to_2 symmetry
