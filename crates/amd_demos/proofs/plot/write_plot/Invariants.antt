use Rattle.amd_texts.specs.Writers.{HasTold}
use Rattle.amd_demos.proofs.plot.write_plot.Given as goal

abbrev pub invariant-loop-line : goal.invariant-loop-line
invariant-loop-line g l = HasTold (g.W.Write.contents l.fn.out) (g.W.Write.contents l.out)
