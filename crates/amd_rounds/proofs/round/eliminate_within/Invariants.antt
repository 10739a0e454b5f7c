use Rattle.std.specs.Prelude.{◌≡◌, ◌<◌, ◌⊎◌, length}
use Rattle.amd_lists.specs.Workspaces.{workspace_of, KeepsLoans}
use Rattle.amd_rounds.specs.Keeps.{AreRounds}
use Rattle.amd_rounds.proofs.Rounds.{StandsForSome}
use Rattle.amd_rounds.proofs.round.eliminate_within.Given as goal

abbrev pub invariant-rounds : goal.invariant-rounds
invariant-rounds g l = record {
  rounds : AreRounds l.control.aggressive (workspace_of l.fn.work) (workspace_of l.work);
  stands : StandsForSome (workspace_of l.work);
  fewer : (l.work ≡ l.fn.work) ⊎ (l.work.live < l.fn.work.live);
  unpacked : length l.fn.work.iw.now < l.room → l.work.n_cmp_a ≡ l.fn.work.n_cmp_a;
  loans : KeepsLoans l.fn.work l.work;
  long : (length l.work.iw.now ≡ length l.fn.work.iw.now) × (length l.work.nv.now ≡ length l.fn.work.nv.now);
}

abbrev pub decreases-rounds : goal.decreases-rounds
decreases-rounds g l = l.work.live
