-- The line is what the format writes, as the label is ASCII.
use Rattle.std.proofs.Common.{◌∙◌, ap, arith}
use Rattle.std.specs.Fmt.{styled_text}
use Rattle.amd_texts.proofs.Padding.{padded-label}
use Rattle.amd_report.proofs.Members.{line-from_format, three-line}
use Rattle.amd_report.proofs.compare.write_three.Goals as goal

pub returns : goal.returns
returns g c =
    let shown = ap (λ s. styled_text s c.args.label.now) c.laid_out.ensures ∙ padded-label c.args.label.now c.requires (omega arith) in
    line-from_format c.args.label.now _ _ _ _ _ shown (three-line _ _ _ _) c.in_ok-writeln.ensures.bytes
