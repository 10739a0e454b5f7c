use Rattle.std.proofs.Common.{◌≡◌, ◌≤◌, length}
use Rattle.amd_words.specs.Sides.{nexts, lasts}
use Rattle.amd_words.specs.Words.{rows, classes}
use Rattle.amd_merging.specs.Reading.{KeepsCounts, classes_with}
use Rattle.amd_merging.proofs.MergeState.{Merging}
use Rattle.amd_merging.proofs.merging.merge_front.Given as goal

abbrev pub invariant-classes : goal.invariant-classes
invariant-classes g l = record {
  within : l.left ≤ l.count;
  keys : lasts l.sides ≡ lasts l.fn.sides;
  merging : Merging (length (nexts l.fn.sides)) (classes_with l.iw l.fn.pe l.fn.e_len l.len l.fn.counts l.fn.hash l.fn.sides)
      (classes l.fn.counts.nv.now (rows l.iw l.from l.count)) l.flag l.count
      (length (classes l.fn.counts.nv.now (rows l.iw l.from l.left))) l.pe l.e_len l.counts.nv.now l.counts.w.now l.hash
      (nexts l.sides) l.now;
  loans : KeepsCounts l.fn.counts l.counts;
}

abbrev pub decreases-classes : goal.decreases-classes
decreases-classes g l = l.left
