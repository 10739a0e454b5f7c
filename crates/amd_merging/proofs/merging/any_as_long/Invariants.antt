use Rattle.std.proofs.Common.{◌&&◌, length}
use Rattle.std.specs.Prelude.{◌==◌}
use Rattle.amd_words.specs.Sides.{nexts, lasts}
use Rattle.amd_words.specs.Words.{num}
use Rattle.amd_merging.specs.Merging.{as_long, bucket}
use Rattle.amd_merging.proofs.BucketWalk.{Walks}
use Rattle.amd_merging.proofs.merging.any_as_long.Given as goal

abbrev pub invariant-members : goal.invariant-members
invariant-members g l = Walks (length (nexts l.sides)) (nexts l.sides)
    (λ j. num (lasts l.sides) j == l.key && as_long l.e_len l.len l.count l.few j) (bucket (nexts l.sides) l.head) l.j

abbrev pub decreases-members : goal.decreases-members
decreases-members g l = length (bucket (nexts l.sides) l.j)
