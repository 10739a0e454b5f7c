-- The parts are written one after another.
use Rattle.std.proofs.Common.{ℕ, List, subst}
use Rattle.std.specs.Prelude.{codes}
use Rattle.std.specs.Io.KnownBytes.{Appends}
use Rattle.amd_texts.specs.Texts.{labelled}
use Rattle.amd_texts.proofs.Written.{Appends-then}
use Rattle.amd_report.proofs.description.write_pattern.Goals as goal

pub returns : goal.returns
returns g c =
    let symmetric = subst (λ (z : List ℕ). Appends (g.W.Write.contents c.write_labelled-3.new.out)
    (g.W.Write.contents c.write_labelled-4.new.out) (labelled (codes "symmetric pattern") z))
    c.answer_word-symmetric.ensures c.in_ok-write_labelled-4.ensures in
    let up_to_2 = Appends-then _ _ _ _ _ c.in_ok-write_labelled.ensures c.in_ok-write_labelled-2.ensures in
    let up_to_3 = Appends-then _ _ _ _ _ up_to_2 c.in_ok-write_labelled-3.ensures in
    let up_to_4 = Appends-then _ _ _ _ _ up_to_3 symmetric in
    let up_to_5 = Appends-then _ _ _ _ _ up_to_4 c.in_ok-write_labelled-5.ensures in
    Appends-then _ _ _ _ _ up_to_5 c.in_ok-write_labelled-6.ensures
