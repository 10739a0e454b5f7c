-- The proof of compaction::mark_rows.
use Rattle.amd_elements.specs.Compaction.{Marked}
use Rattle.amd_elements.proofs.compaction.mark_rows.Given as goal

abbrev pub invariant-loop-j : goal.invariant-loop-j
invariant-loop-j g l = Marked l.fn.iw l.fn.pe l.len l.iw l.pe l.j
