-- The line is what the format writes.
use Rattle.std.proofs.Common.{◌∙◌, ap, arith, refl}
use Rattle.std.specs.Prelude.{codes}
use Rattle.std.specs.Fmt.{styled_text}
use Rattle.amd_texts.proofs.Padding.{padded-label}
use Rattle.amd_report.proofs.Members.{fraction-line, line-from_format}
use Rattle.amd_report.proofs.description.write_mean.Goals as goal

pub returns : goal.returns
returns g c =
    let shown = ap (λ s. styled_text s (codes "mean degree")) c.laid_out.ensures ∙ padded-label (codes "mean degree") refl (omega arith) in
    line-from_format (codes "mean degree") _ _ _ _ _ shown (fraction-line _ _ _) c.in_ok-writeln.ensures.bytes
