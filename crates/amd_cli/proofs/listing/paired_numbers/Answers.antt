-- Each turn adds the place of one vertex.
use Rattle.std.proofs.Common.{arith, rules}
use Rattle.amd_cli.proofs.ToldNumbers.{pairs-next}
use Rattle.amd_cli.proofs.listing.paired_numbers.Goals as goal

pub lines-preserved : goal.lines-preserved
lines-preserved g c = (
  pairs-next _ _ _ _ _ _ _ _ (omega arith) c.lines.invariant.0 c.lines.invariant.1 c.in_ok-place_behind.ensures
      c.in_ok-push.ensures.items,
  search rules,
)
