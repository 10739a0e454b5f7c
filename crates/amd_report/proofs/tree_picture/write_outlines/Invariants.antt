-- The outlines so far are told.
use Rattle.amd_texts.specs.Writers.{HasTold}
use Rattle.amd_report.proofs.tree_picture.write_outlines.Given as goal

abbrev pub invariant-outlines : goal.invariant-outlines
invariant-outlines g l = HasTold (g.W.Write.contents l.fn.out) (g.W.Write.contents l.out)
