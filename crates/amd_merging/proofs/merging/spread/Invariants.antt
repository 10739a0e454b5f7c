use Rattle.std.proofs.Common.{◌≡◌, ◌-◌, ℕ, cond, length}
use Rattle.amd_model.specs.Quotient.{has}
use Rattle.amd_words.specs.Words.{num, rows}
use Rattle.amd_merging.proofs.merging.spread.Given as goal

abbrev pub invariant-loop-q : goal.invariant-loop-q
invariant-loop-q g l = record {
  long : length l.w ≡ length l.fn.w;
  marked : (x : ℕ) → num l.w x ≡ cond (has (rows l.iw l.from (l.q - l.from)) x) l.flag (num l.fn.w x);
}
