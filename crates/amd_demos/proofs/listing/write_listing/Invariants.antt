use Rattle.amd_texts.specs.Writers.{HasTold}
use Rattle.amd_demos.proofs.listing.write_listing.Given as goal

abbrev pub invariant-loop-j : goal.invariant-loop-j
invariant-loop-j g l = HasTold (g.W.Write.contents l.fn.out) (g.W.Write.contents l.out)
