-- The invariant of fronts::renew_all.
use Rattle.std.proofs.Common.{◌≡◌, ◌-◌, length}
use Rattle.amd_words.specs.Words.{start, rows}
use Rattle.amd_lists.specs.Workspaces.{KeepsLoans, workspace_of}
use Rattle.amd_fronts.specs.Fronts.{renewed_in, RenewsFront}
use Rattle.amd_fronts.proofs.fronts.renew_all.Given as goal

abbrev pub invariant-loop-p : goal.invariant-loop-p
invariant-loop-p g l = record {
  renews : RenewsFront (length l.fn.work.w.now) l.me (rows l.fn.work.iw.now (start l.fn.work.pe.now l.me) (l.p - l.from))
      (workspace_of l.fn.work) (workspace_of l.work) l.gone;
  same : workspace_of l.work ≡ renewed_in (workspace_of l.fn.work) (workspace_of l.work);
  loans : KeepsLoans l.fn.work l.work;
}
