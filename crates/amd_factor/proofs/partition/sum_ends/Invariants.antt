use Rattle.amd_factor.specs.Partitions.{SumEnds}
use Rattle.amd_factor.proofs.partition.sum_ends.Given as goal

abbrev pub invariant-places : goal.invariant-places
invariant-places l = SumEnds l.owner l.sizes l.k l.total
