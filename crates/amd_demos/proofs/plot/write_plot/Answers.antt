-- Each line is written behind those before it.
use Rattle.amd_texts.proofs.Told.{told, told-then}
use Rattle.amd_demos.proofs.plot.write_plot.Goals as goal

pub loop-line-init : goal.loop-line-init
loop-line-init g c = told-then _ _ _ (told _ _ _ c.in_ok-writeln.ensures.bytes) c.in_ok-write_heading.ensures

pub loop-line-preserved : goal.loop-line-preserved
loop-line-preserved g c = told-then _ _ _ c.loop-line.invariant c.in_ok-write_line.ensures
