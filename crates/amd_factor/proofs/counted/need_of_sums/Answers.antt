use Rattle.std.proofs.Common.{arith}
use Rattle.amd_factor.proofs.Meetings.CountNeeds.{need-of-sums, squares-fit}
use Rattle.amd_factor.proofs.counted.need_of_sums.Goals as goal

pub returns : goal.returns
returns c = λ columns h. need-of-sums columns c.args.sums h (squares-fit c.args.sums.entries c.args.sums.squares (omega arith) c.requires)
