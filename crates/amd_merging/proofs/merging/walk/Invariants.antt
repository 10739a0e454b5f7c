use Rattle.std.proofs.Common.{length}
use Rattle.amd_words.specs.Sides.{nexts}
use Rattle.amd_merging.specs.Reading.{lists_read}
use Rattle.amd_merging.specs.Merging.{bucket, looks}
use Rattle.amd_merging.proofs.BucketWalk.{Walks}
use Rattle.amd_merging.proofs.merging.walk.Given as goal

abbrev pub invariant-members : goal.invariant-members
invariant-members g l = Walks (length (nexts l.sides)) (nexts l.sides)
    (looks (lists_read l.lists) l.w l.count l.few l.flag) (bucket (nexts l.sides) l.head) l.j

abbrev pub decreases-members : goal.decreases-members
decreases-members g l = length (bucket (nexts l.sides) l.j)
