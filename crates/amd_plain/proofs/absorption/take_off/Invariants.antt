use Rattle.std.proofs.Common.{ℕ, ◌≡◌, length, take}
use Rattle.amd_plain.specs.Views.{num}
use Rattle.amd_plain.specs.Rounds.{less}
use Rattle.amd_plain.proofs.absorption.take_off.Given as goal

abbrev pub invariant-loop-e : goal.invariant-loop-e
invariant-loop-e g l = record {
  size : length l.beyond.items ≡ length l.fn.beyond.items;
  taken : (e : ℕ) → num l.beyond.items e ≡ less e l.rows (num l.fn.beyond.items e) (take l.e-index l.elements);
}
