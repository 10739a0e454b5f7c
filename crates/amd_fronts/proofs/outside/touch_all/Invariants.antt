-- The invariant of outside::touch_all.
use Rattle.std.proofs.Common.{◌≡◌, ◌-◌, ℕ, cond, length}
use Rattle.amd_model.specs.Quotient.{has}
use Rattle.amd_words.specs.Words.{num, word, flip_of, rows}
use Rattle.amd_fronts.specs.Tallies.{settled_in, ends_in}
use Rattle.amd_fronts.proofs.outside.touch_all.Given as goal

abbrev pub invariant-loop-q : goal.invariant-loop-q
invariant-loop-q g l = record {
  long : length l.w ≡ length l.fn.w;
  p_long : length l.pe ≡ length l.fn.pe;
  counted : (e : ℕ) → num l.w e ≡ cond (has (rows l.iw l.from (l.q - l.from)) e)
      (settled_in l.tally l.degree l.fn.w e) (num l.fn.w e);
  starts : (e : ℕ) → word l.pe e ≡ cond (has (rows l.iw l.from (l.q - l.from)) e)
      (cond (ends_in l.tally l.degree l.fn.w e) (flip_of l.tally.me) (word l.fn.pe e))
      (word l.fn.pe e);
}
