use Rattle.amd_factor.proofs.Meetings.Ranking.{Measuring}
use Rattle.amd_factor.proofs.ranks.measure.Given as goal

abbrev pub invariant-places : goal.invariant-places
invariant-places l = Measuring l.up l.size l.k
