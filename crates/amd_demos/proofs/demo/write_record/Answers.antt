-- The line is what the format writes, of the names of the statuses.
use Rattle.std.proofs.Common.{ap, ◌∙◌}
use Rattle.std.specs.Prelude.{codes}
use Rattle.amd_texts.proofs.Written.{Appends-then}
use Rattle.amd_demos.specs.Lines.{status_name}
use Rattle.amd_demos.proofs.Parts.{texts-between}
use Rattle.amd_demos.proofs.demo.write_record.Goals as goal

pub returns : goal.returns
returns g c =
    let wanted = c.status_name-wanted.ensures ∙ ap status_name c.wanted_status.ensures in
    let line = texts-between (codes "return value from amd::order: ") (codes " (should be ")
    (codes ")\n") _ _ _ _ _ _ c.status_name-status.ensures wanted c.in_ok-writeln.ensures.bytes in
    Appends-then _ _ _ _ _ line c.in_ok-info.ensures
