use Rattle.std.specs.Prelude.{◌≡◌, ◌<◌, ◌≤◌, length}
use Rattle.std.specs.Option.{option_copied}
use Rattle.std.specs.Vec.{vec_capacity}
use Rattle.amd_lists.specs.Workspaces.{Workspace}
use Rattle.amd_rounds.specs.Keeps.{AreRounds}
use Rattle.amd_workspace.specs.Starting.{KeepsRows}
use Rattle.amd_engine.specs.InPlace.{StandsAtStart, workspace_in}
use Rattle.amd_engine.proofs.running.run_growing.Given as goal

abbrev pub invariant-growths : goal.invariant-growths
invariant-growths g l = record {
  rounds : (before : Workspace)
      × StandsAtStart (option_copied l.choice.hold) l.threshold l.fn.iw.items l.fn.rows.pe.now l.fn.rows.len.now before
      × AreRounds l.choice.control.now.aggressive before (workspace_in l.iw.items l.rows l.numbers);
  room : (length l.iw.items ≤ l.room) × (l.room ≤ vec_capacity l.iw);
  unpacked : length l.iw.items < l.room → l.numbers.told.n_cmp_a ≡ 0;
  capacity : vec_capacity l.iw ≡ vec_capacity l.fn.iw;
  loans : KeepsRows l.fn.rows l.rows;
}

abbrev pub decreases-growths : goal.decreases-growths
decreases-growths g l = l.numbers.live
