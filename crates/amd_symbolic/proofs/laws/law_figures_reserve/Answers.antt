use Rattle.amd_symbolic.proofs.Reserved.{figures_reserve}
use Rattle.amd_symbolic.proofs.laws.law_figures_reserve.Goals as goal

pub returns : goal.returns
returns c = figures_reserve
