-- The numbers before rise.
use Rattle.std.proofs.Common.{ℕ, ◌+◌, ◌<◌, ◌≤◌, get_or}
use Rattle.amd_market.proofs.boeing.are_rising.Given as goal

abbrev pub invariant-places : goal.invariant-places
invariant-places l = (j : ℕ) → j + 1 < l.place → get_or l.numbers j 0 ≤ get_or l.numbers (j + 1) 0
