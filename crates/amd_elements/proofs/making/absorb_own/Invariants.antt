use Rattle.std.proofs.Common.{◌≡◌, ◌-◌, ℕ, cond, length}
use Rattle.amd_model.specs.Quotient.{has}
use Rattle.amd_words.specs.Words.{num, rows, word, flip_of}
use Rattle.amd_elements.proofs.making.absorb_own.Given as goal

abbrev pub invariant-loop-p : goal.invariant-loop-p
invariant-loop-p g l = record {
  p_long : length l.pe ≡ length l.fn.pe;
  w_long : length l.w ≡ length l.fn.w;
  starts : (e : ℕ) → word l.pe e ≡ cond (has (rows l.iw l.from (l.p - l.from)) e) (flip_of l.me) (word l.fn.pe e);
  counters : (e : ℕ) → num l.w e ≡ cond (has (rows l.iw l.from (l.p - l.from)) e) 0 (num l.fn.w e);
}
