-- Each mark is written behind those before it.
use Rattle.amd_texts.proofs.Told.{told, told-more}
use Rattle.amd_demos.proofs.plot.write_line.Goals as goal

pub loop-place-init : goal.loop-place-init
loop-place-init g c = told _ _ _ c.in_ok-write.ensures.bytes

pub loop-place-preserved : goal.loop-place-preserved
loop-place-preserved g c = told-more _ _ _ _ c.loop-place.invariant c.in_ok-write-2.ensures.bytes

pub returns : goal.returns
returns g c = told-more _ _ _ _ c.loop-place.invariant c.in_ok-write_all.ensures.bytes
