-- The invariant of outside::count_outside.
use Rattle.std.proofs.Common.{◌-◌}
use Rattle.amd_words.specs.Words.{rows}
use Rattle.amd_lists.specs.Workspaces.{KeepsLoans, workspace_of}
use Rattle.amd_fronts.specs.Effects.{CountsOutside}
use Rattle.amd_fronts.proofs.outside.count_outside.Given as goal

abbrev pub invariant-loop-p : goal.invariant-loop-p
invariant-loop-p g l = record {
  counts : CountsOutside l.aggressive l.me (rows l.fn.work.iw.now l.from (l.p - l.from)) (workspace_of l.fn.work) (workspace_of l.work);
  loans : KeepsLoans l.fn.work l.work;
}
