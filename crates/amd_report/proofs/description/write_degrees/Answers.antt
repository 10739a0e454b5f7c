-- The parts are written one after another.
use Rattle.std.proofs.Common.{ℕ, subst}
use Rattle.std.specs.Io.KnownBytes.{Appends}
use Rattle.amd_report.specs.Descriptions.{mean_line}
use Rattle.amd_texts.proofs.Written.{Appends-then}
use Rattle.amd_report.proofs.description.write_degrees.Goals as goal

pub returns : goal.returns
returns g c =
    let mean = subst (λ (z : ℕ). Appends (g.W.Write.contents c.write_labelled.new.out)
    (g.W.Write.contents c.write_mean.new.out) (mean_line z))
    c.mean_degree.ensures c.in_ok-write_mean.ensures in
    let up_to_2 = Appends-then _ _ _ _ _ c.in_ok-write_labelled.ensures mean in
    let up_to_3 = Appends-then _ _ _ _ _ up_to_2 c.in_ok-write_labelled-2.ensures in
    let up_to_4 = Appends-then _ _ _ _ _ up_to_3 c.in_ok-write_labelled-3.ensures in
    Appends-then _ _ _ _ _ up_to_4 c.in_ok-write_labelled-4.ensures
