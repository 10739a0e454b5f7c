use Rattle.amd_model.proofs.Patterns.DegreeSums.{pattern_graph}
use Rattle.amd_model.proofs.sum_laws.law_pattern_graph.Goals as goal

pub returns : goal.returns
returns c = pattern_graph
