use Rattle.amd_texts.specs.Writers.{HasTold}
use Rattle.amd_demos.proofs.plot.write_line.Given as goal

abbrev pub invariant-loop-place : goal.invariant-loop-place
invariant-loop-place g l = HasTold (g.W.Write.contents l.fn.out) (g.W.Write.contents l.out)
