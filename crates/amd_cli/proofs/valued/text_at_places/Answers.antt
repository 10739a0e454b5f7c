-- The first line stands before all.
use Rattle.amd_lines.proofs.LineLemmas.{takes-one}
use Rattle.amd_cli.proofs.PlacedLines.{text-whole}
use Rattle.amd_cli.proofs.valued.text_at_places.Goals as goal

pub returns : goal.returns
returns g c =
    text-whole _ c.new-lines.result _ _ _ _ _ _ _ _ c.new-lines.ensures.source
    (takes-one _ _ _ (rw c.if-not-branch.false at c.in_ok-first_line.ensures))
    (rw c.line.ensures at c.in-Some.ensures.0) c.in-Some.ensures.1
    (rw (c.new-out.ensures.items, c.line-2.ensures) at c.in_ok-write_line.ensures) c.in_ok-write_listed.ensures
