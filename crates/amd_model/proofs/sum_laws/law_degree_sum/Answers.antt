use Rattle.amd_model.proofs.Patterns.DegreeSums.{degrees_twice}
use Rattle.amd_model.proofs.sum_laws.law_degree_sum.Goals as goal

pub returns : goal.returns
returns c = degrees_twice
