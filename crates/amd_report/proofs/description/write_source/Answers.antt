-- The parts are written one after another.
use Rattle.std.proofs.Common.{ℕ, List, subst}
use Rattle.std.specs.Prelude.{codes}
use Rattle.std.specs.Io.KnownBytes.{Appends}
use Rattle.amd_texts.specs.Texts.{labelled}
use Rattle.amd_texts.proofs.Written.{Appends-then}
use Rattle.amd_report.proofs.description.write_source.Goals as goal

pub returns : goal.returns
returns g c =
    let format = subst (λ (z : List ℕ). Appends (g.W.Write.contents c.args.out.now)
    (g.W.Write.contents c.write_labelled.new.out) (labelled (codes "format of the file") z))
    c.format_name-format.ensures c.in_ok-write_labelled.ensures in
    let field = subst (λ (z : List ℕ). Appends (g.W.Write.contents c.write_labelled.new.out)
    (g.W.Write.contents c.write_labelled-2.new.out) (labelled (codes "field of the file") z))
    c.field_name-field.ensures c.in_ok-write_labelled-2.ensures in
    let symmetry = subst (λ (z : List ℕ). Appends (g.W.Write.contents c.write_labelled-2.new.out)
    (g.W.Write.contents c.write_labelled-3.new.out) (labelled (codes "symmetry of the file") z))
    c.symmetry_name-symmetry.ensures c.in_ok-write_labelled-3.ensures in
    let up_to_2 = Appends-then _ _ _ _ _ format field in
    Appends-then _ _ _ _ _ up_to_2 symmetry
