use Rattle.amd_model.proofs.Figures.SmallFigures.{figures_are_small}
use Rattle.amd_model.proofs.figure_laws.law_figures_are_small.Goals as goal

pub returns : goal.returns
returns c = figures_are_small
