-- Each column is written behind those before it.
use Rattle.amd_texts.proofs.Told.{told-none, told-then}
use Rattle.amd_demos.proofs.listing.write_listing.Goals as goal

pub loop-j-init : goal.loop-j-init
loop-j-init g c = told-none _

pub loop-j-preserved : goal.loop-j-preserved
loop-j-preserved g c = told-then _ _ _ c.loop-j.invariant c.in_ok-write_column.ensures
