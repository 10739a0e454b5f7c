-- Each turn adds the number of one line.
use Rattle.std.proofs.Common.{arith}
use Rattle.amd_cli.proofs.ToldNumbers.{singles-next}
use Rattle.amd_cli.proofs.listing.single_numbers.Goals as goal

pub lines-preserved : goal.lines-preserved
lines-preserved g c = singles-next _ _ _ _ _ _ (omega arith) c.lines.invariant c.in-One.is c.in_ok-push.ensures.items
