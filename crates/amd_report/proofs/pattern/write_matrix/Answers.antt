-- The parts are written one after another.
use Rattle.std.proofs.Common.{ℕ, subst, ◌∙◌}
use Rattle.std.specs.Io.KnownBytes.{Appends}
use Rattle.amd_texts.proofs.Written.{Appends-then}
use Rattle.amd_report.specs.Patterns.{size_line}
use Rattle.amd_report.proofs.pattern.write_matrix.Goals as goal

pub returns : goal.returns
returns g c =
    let size = subst (λ (z : ℕ). Appends (g.W.Write.contents c.write_all.new.self) (g.W.Write.contents c.write_size.new.out)
    (size_line c.args.matrix.now.n z)) (c.len-entries.ensures ∙ c.args.matrix.now.a_i.ok.0)
    c.in_ok-write_size.ensures in
    let up_to_2 = Appends-then _ _ _ _ _ c.in_ok-write_all.ensures.bytes size in
    Appends-then _ _ _ _ _ up_to_2 c.in_ok-write_entries.ensures
