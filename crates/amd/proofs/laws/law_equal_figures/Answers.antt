use Rattle.amd.proofs.Orderings.{figures_equal}
use Rattle.amd.proofs.laws.law_equal_figures.Goals as goal

pub returns : goal.returns
returns c = figures_equal
