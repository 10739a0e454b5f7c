use Rattle.std.proofs.Common.{◌≡◌, ℕ, cond, length}
use Rattle.std.specs.Prelude.{nat_lt, ◌==◌}
use Rattle.amd_words.specs.Words.{num}
use Rattle.amd_fronts.proofs.outside.clear.Given as goal

abbrev pub invariant-loop-k : goal.invariant-loop-k
invariant-loop-k g l = record {
  long : length l.w ≡ length l.fn.w;
  cleared : (e : ℕ) → num l.w e ≡ cond (nat_lt e l.k) (cond (num l.fn.w e == 0) 0 1) (num l.fn.w e);
}
