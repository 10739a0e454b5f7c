-- Each turn tells one character more.
use Rattle.amd_texts.proofs.Told.{told-none, told-then}
use Rattle.amd_report.proofs.names.write_name.Goals as goal

pub characters-init : goal.characters-init
characters-init g c = told-none _

pub characters-preserved : goal.characters-preserved
characters-preserved g c = told-then _ _ _ c.characters.invariant c.in_ok-write_character.ensures
