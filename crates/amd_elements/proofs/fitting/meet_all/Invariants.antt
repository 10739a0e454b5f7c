use Rattle.std.proofs.Common.{◌-◌}
use Rattle.amd_words.specs.Words.{classes, rows}
use Rattle.amd_elements.specs.Room.{Meets}
use Rattle.amd_elements.proofs.fitting.meet_all.Given as goal

abbrev pub invariant-loop-p : goal.invariant-loop-p
invariant-loop-p g l = Meets l.fn.nv (classes l.fn.nv (rows l.iw l.from (l.p - l.from))) l.left l.nv l.now
