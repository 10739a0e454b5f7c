use Rattle.amd_model.proofs.Figures.NeededColumns.{figures_cover}
use Rattle.amd_model.proofs.figure_laws.law_figures_cover.Goals as goal

pub returns : goal.returns
returns c = figures_cover
