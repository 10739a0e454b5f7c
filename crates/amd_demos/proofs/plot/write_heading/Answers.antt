-- Each digit is written behind those before it.
use Rattle.amd_texts.proofs.Told.{told, told-more}
use Rattle.amd_demos.proofs.plot.write_heading.Goals as goal

pub loop-j-init : goal.loop-j-init
loop-j-init g c = told _ _ _ c.in_ok-write.ensures.bytes

pub loop-j-preserved : goal.loop-j-preserved
loop-j-preserved g c = told-more _ _ _ _ c.loop-j.invariant c.in_ok-write-2.ensures.bytes

pub returns : goal.returns
returns g c = told-more _ _ _ _ c.loop-j.invariant c.in_ok-write_all.ensures.bytes
