use Rattle.std.proofs.Common.{ℕ, true, ◌≡◌, ◌≤◌, ◌-◌, ◌*◌, length, filter, set}
use Rattle.amd_words.specs.Words.{num, word, rows}
use Rattle.amd_lists.specs.Renewal.{is_kept, hashed, Filters}
use Rattle.amd_lists.specs.Spans.{span, sifted}
use Rattle.amd_lists.proofs.renewal.keep_words.Given as goal

abbrev pub invariant-loop-p : goal.invariant-loop-p
invariant-loop-p g l = record {
  filters : Filters (length l.w) (is_kept l.w) (λ e.
      num l.w e - l.less) 0 (span l.fn.iw l.from (l.p - l.from)) l.from
      (sifted (set l.iw l.end (word l.fn.iw l.end)) l.end l.outside);
  behind : (k : ℕ) → l.p ≤ k → word l.iw k ≡ word l.fn.iw k;
  hash : l.hash ≡ hashed 0 (filter (is_kept l.w) (rows l.fn.iw l.from (l.p - l.from)));
  small : l.narrow ≡ true → l.outside ≤ 4294967295 * (l.p - l.from);
}
