-- The plots are written one after another.
use Rattle.amd_texts.proofs.Told.{told-then}
use Rattle.amd_demos.proofs.demo.write_input_plots.Goals as goal

pub returns-in_ok-write_plot-in-Jumbled-2 : goal.returns-in_ok-write_plot-in-Jumbled-2
returns-in_ok-write_plot-in-Jumbled-2 g c = told-then _ _ _ c.in_ok-write_plot-in-Jumbled.ensures c.in_ok-write_plot-in-Jumbled-2.ensures
