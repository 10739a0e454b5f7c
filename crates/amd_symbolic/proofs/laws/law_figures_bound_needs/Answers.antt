use Rattle.amd_symbolic.proofs.NeedsBound.{figures_bound_needs}
use Rattle.amd_symbolic.proofs.laws.law_figures_bound_needs.Goals as goal

pub returns : goal.returns
returns c = figures_bound_needs
