-- The proof of compaction::pack_lists.
use Rattle.std.proofs.Common.{◌-◌}
use Rattle.amd_elements.proofs.Moves.{Swept}
use Rattle.amd_elements.proofs.compaction.pack_lists.Given as goal

abbrev pub invariant-loop-src : goal.invariant-loop-src
invariant-loop-src g l = Swept l.fn.iw l.fn.pe l.len l.free l.iw l.pe l.src l.dst

abbrev pub decreases-loop-src : goal.decreases-loop-src
decreases-loop-src g l = l.free - l.src
