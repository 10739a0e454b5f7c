-- The line is what the format writes.
use Rattle.std.proofs.Common.{◌∙◌, ap, arith, refl}
use Rattle.std.specs.Prelude.{codes}
use Rattle.std.specs.Fmt.{styled_text}
use Rattle.amd_texts.proofs.Padding.{padded-label}
use Rattle.amd_report.proofs.Members.{line-from_format, share-line}
use Rattle.amd_report.proofs.description.write_symmetry.Goals as goal

pub returns : goal.returns
returns g c =
    let shown = ap (λ s. styled_text s (codes "pattern symmetry")) c.laid_out.ensures
    ∙ padded-label (codes "pattern symmetry") refl (omega arith) in
    line-from_format (codes "pattern symmetry") _ _ _ _ _ shown (share-line _ _) c.in_ok-writeln.ensures.bytes
