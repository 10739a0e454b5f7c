-- The characters so far are told.
use Rattle.amd_texts.specs.Writers.{HasTold}
use Rattle.amd_report.proofs.names.write_name.Given as goal

abbrev pub invariant-characters : goal.invariant-characters
invariant-characters g l = HasTold (g.W.Write.contents l.fn.out) (g.W.Write.contents l.out)
