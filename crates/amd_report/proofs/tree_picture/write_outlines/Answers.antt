-- Each turn tells one outline more.
use Rattle.amd_texts.proofs.Told.{told-none, told-then}
use Rattle.amd_report.proofs.tree_picture.write_outlines.Goals as goal

pub outlines-init : goal.outlines-init
outlines-init g c = told-none _

pub outlines-preserved : goal.outlines-preserved
outlines-preserved g c = told-then _ _ _ c.outlines.invariant c.in_ok-write_outline.ensures
