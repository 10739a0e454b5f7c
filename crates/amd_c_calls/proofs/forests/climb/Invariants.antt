use Rattle.amd_c_calls.proofs.WalksUp.{Climbs, unmarked}
use Rattle.amd_c_calls.proofs.forests.climb.Given as goal

abbrev pub invariant-up : goal.invariant-up
invariant-up l = Climbs l.above l.start l.walk l.initial.marks l.marks l.place

abbrev pub decreases-up : goal.decreases-up
decreases-up l = unmarked l.marks
