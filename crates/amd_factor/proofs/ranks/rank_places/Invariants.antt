use Rattle.amd_factor.proofs.Meetings.Ranking.{Ranking}
use Rattle.amd_factor.proofs.ranks.rank_places.Given as goal

abbrev pub invariant-places : goal.invariant-places
invariant-places l = Ranking l.up l.size l.next l.rank l.k

abbrev pub decreases-places : goal.decreases-places
decreases-places l = l.k
