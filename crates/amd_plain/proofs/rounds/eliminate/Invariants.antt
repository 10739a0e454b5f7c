use Rattle.amd_plain.specs.Keeps.{ArePlainRounds, PlainStands}
use Rattle.amd_model.specs.Graph.{Graph}
use Rattle.amd_model.specs.State.{State}
use Rattle.amd_model.specs.Quotient.{QuotientGraph}
use Rattle.std.specs.Prelude.{ℕ, Bool}
use Rattle.amd_plain.proofs.rounds.eliminate.Given as goal

abbrev pub invariant-rounds : goal.invariant-rounds
invariant-rounds g l = record {
  rounds : ArePlainRounds l.control.aggressive l.fn.work l.work;
  stands : (gr : Graph) × (dense : ℕ → Bool) × (t : QuotientGraph) × (s : State) × PlainStands gr dense l.work t s;
}

abbrev pub decreases-rounds : goal.decreases-rounds
decreases-rounds g l = l.work.live
