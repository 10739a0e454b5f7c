-- The lines are written one after another.
use Rattle.amd_texts.proofs.Written.{Appends-then}
use Rattle.amd_demos.proofs.demo.write_permutations.Goals as goal

pub returns : goal.returns
returns g c = Appends-then _ _ _ _ _ c.in_ok-write_vector.ensures c.in_ok-write_vector-2.ensures
