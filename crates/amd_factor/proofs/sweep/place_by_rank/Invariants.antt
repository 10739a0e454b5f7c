use Rattle.amd_factor.proofs.Meetings.Onto.{Placed}
use Rattle.amd_factor.proofs.sweep.place_by_rank.Given as goal

abbrev pub invariant-places : goal.invariant-places
invariant-places g l = Placed g.s l.k l.order
