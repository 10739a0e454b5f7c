use Rattle.std.proofs.Common.{ℕ, true, ◌≡◌, ◌≤◌, ◌+◌, ◌-◌, ◌*◌, length, filter, set}
use Rattle.amd_words.specs.Words.{word, size_of, rows}
use Rattle.amd_lists.specs.Renewal.{is_outside, hashed, Filters}
use Rattle.amd_lists.specs.Spans.{span, sifted}
use Rattle.amd_lists.proofs.renewal.keep_part.Given as goal

abbrev pub invariant-loop-p : goal.invariant-loop-p
invariant-loop-p g l = record {
  filters : Filters (length l.nv) (is_outside l.nv) (size_of l.nv) l.first (span l.fn.iw l.fn.part.from (l.p - l.fn.part.from)) l.fn.part.to
      (sifted (set l.iw l.end (word l.fn.iw l.end)) l.end l.outside);
  behind : (k : ℕ) → l.p ≤ k → word l.iw k ≡ word l.fn.iw k;
  hash : l.hash ≡ hashed l.sum (filter (is_outside l.nv) (rows l.fn.iw l.fn.part.from (l.p - l.fn.part.from)));
  small : l.narrow ≡ true → l.outside ≤ l.first + 4294967295 * (l.p - l.fn.part.from);
}
