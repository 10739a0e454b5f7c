use Rattle.std.proofs.Common.{◌-◌}
use Rattle.amd_words.specs.Words.{rows}
use Rattle.amd_elements.specs.Room.{Unmarks}
use Rattle.amd_elements.proofs.fitting.unmark_all.Given as goal

abbrev pub invariant-loop-p : goal.invariant-loop-p
invariant-loop-p g l = Unmarks l.fn.nv (rows l.iw l.from (l.p - l.from)) l.nv
