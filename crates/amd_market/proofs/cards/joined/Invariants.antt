-- What was kept stands before what will be kept of the rest, and no more parentheses are open than bytes were passed.
use Rattle.std.proofs.Common.{◌≡◌, ◌++◌, ◌≤◌, drop}
use Rattle.amd_market.specs.Boeing.{joined}
use Rattle.amd_market.proofs.cards.joined.Given as goal

abbrev pub invariant-bytes : goal.invariant-bytes
invariant-bytes g l = (l.text.items ++ joined l.depth (drop l.byte-index l.line) ≡ joined 0 l.line) × (l.depth ≤ l.byte-index)
