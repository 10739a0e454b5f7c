use Rattle.std.proofs.Common.{ℕ, ◌≡◌, ◌<◌, ◌≤◌, ◌+◌, length}
use Rattle.amd_words.specs.Words.{word}
use Rattle.amd_elements.proofs.compaction.move_words.Given as goal

abbrev pub invariant-loop-k : goal.invariant-loop-k
invariant-loop-k g l = record {
  long : length l.iw ≡ length l.fn.iw;
  copied : (m : ℕ) → m < l.k → word l.iw (l.to + m) ≡ word l.fn.iw (l.from + m);
  below : (m : ℕ) → m < l.to → word l.iw m ≡ word l.fn.iw m;
  above : (m : ℕ) → l.to + l.k ≤ m → word l.iw m ≡ word l.fn.iw m;
}
