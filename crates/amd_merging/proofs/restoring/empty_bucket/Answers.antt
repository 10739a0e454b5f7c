use Rattle.std.proofs.Common.{arith}
use Rattle.amd_words.specs.Sides.{lasts}
use Rattle.amd_lists.specs.Lengths.{row_count}
use Rattle.amd_merging.proofs.BucketKeys.{bucket_small}
use Rattle.amd_merging.proofs.restoring.empty_bucket.Goals as goal

pub put_cell-requires-clause-inside : goal.put_cell-requires-clause-inside
put_cell-requires-clause-inside g c =
    let e = c.bucket_at.ensures in let long = c.requires.long in
    let s = bucket_small (row_count c.args.sides.now) c.args.count (lasts c.args.sides.now) c.args.i c.requires.class.1 in
    omega (arith, e, long, s)
