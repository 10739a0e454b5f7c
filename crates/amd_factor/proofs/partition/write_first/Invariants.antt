use Rattle.amd_factor.proofs.Partitions.Runs.{Begun}
use Rattle.amd_factor.proofs.partition.write_first.Given as goal

abbrev pub invariant-places : goal.invariant-places
invariant-places l = record { begun : Begun l.owner l.k l.first }
