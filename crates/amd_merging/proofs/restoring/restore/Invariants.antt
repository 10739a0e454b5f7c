-- The invariant of restoring::restore.
use Rattle.std.proofs.Common.{ℕ, List, true, false, ◌≡◌, ◌<◌, ◌-◌, length}
use Rattle.amd_words.specs.Sides.{nexts, lasts}
use Rattle.amd_model.specs.Quotient.{has}
use Rattle.amd_words.specs.Words.{num, in_front, rows}
use Rattle.amd_lists.specs.Chains.{DegreeLists}
use Rattle.amd_lists.specs.Renewal.{Filters}
use Rattle.amd_lists.specs.Spans.{span, sifted}
use Rattle.amd_lists.specs.Sizes.{bucket_count}
use Rattle.amd_merging.specs.Restoring.{marked_in, bound_in, put_all, Restores}
use Rattle.amd_merging.proofs.FrontBack.{Emptying}
use Rattle.amd_merging.proofs.restoring.restore.Given as goal

abbrev pub invariant-loop-p : goal.invariant-loop-p
invariant-loop-p g l = record {
  lengths : (length l.nv ≡ length (nexts l.fn.sides)) × (length l.degree ≡ length (nexts l.fn.sides))
      × (length l.head ≡ length (nexts l.fn.sides))
      × (length (nexts l.sides) ≡ length (nexts l.fn.sides)) × (length (lasts l.sides) ≡ length (nexts l.fn.sides))
      × (length l.hash ≡ bucket_count (length (nexts l.fn.sides)));
  filters : Filters (length (nexts l.fn.sides)) (in_front l.fn.nv) (λ j. 0) 0 (span l.fn.iw l.front.from (l.p - l.front.from))
      l.front.from (sifted l.iw l.end 0);
  restores : Restores (rows l.fn.iw l.front.from (l.p - l.front.from)) l.front.border l.front.left l.least l.fn.nv l.fn.degree l.nv l.degree
      l.low;
  lasts_kept : (x : ℕ) → has (rows l.fn.iw l.front.from l.front.count) x ≡ true →
      has (rows l.fn.iw l.front.from (l.p - l.front.from)) x ≡ false →
      num (lasts l.sides) x ≡ num (lasts l.fn.sides) x;
  empties : Emptying (length (nexts l.fn.sides)) l.fn.iw l.front.from l.fn.hash (l.p - l.front.from) l.hash;
  linked : (lists : ℕ → List ℕ) → ((b x : ℕ) → b < length (nexts l.fn.sides) → has (lists b) x ≡ true →
      has (rows l.fn.iw l.front.from l.front.count) x ≡ false) →
      DegreeLists (length (nexts l.fn.sides)) l.fn.head (nexts l.fn.sides) (lasts l.fn.sides) l.fn.degree lists →
      DegreeLists (length (nexts l.fn.sides)) l.head (nexts l.sides) (lasts l.sides) l.degree
      (put_all (bound_in l.front.border l.front.left l.fn.nv l.fn.degree) (marked_in l.fn.nv (rows l.fn.iw l.front.from (l.p -
      l.front.from))) lists);
}
