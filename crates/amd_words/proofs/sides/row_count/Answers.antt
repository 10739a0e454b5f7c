use Rattle.std.proofs.Common.{sym}
use Rattle.amd_words.proofs.SideLists.{nexts_long}
use Rattle.amd_words.proofs.sides.row_count.Goals as goal

pub returns : goal.returns
returns g c = sym (nexts_long c.args.sides.now)
