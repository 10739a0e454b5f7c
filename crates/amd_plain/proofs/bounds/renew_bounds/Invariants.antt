use Rattle.std.proofs.Common.{◌≡◌, ℕ, take, length, cond}
use Rattle.amd_model.specs.Quotient.{has}
use Rattle.amd_plain.specs.Views.{num}
use Rattle.amd_plain.specs.Rounds.{plain_bound}
use Rattle.amd_plain.proofs.bounds.renew_bounds.Given as goal

abbrev pub invariant-loop-i : goal.invariant-loop-i
invariant-loop-i g l = record {
  bounds : (i : ℕ) → num l.bound.items i ≡ cond (has (take l.i-index l.made) i)
      (plain_bound l.border l.live l.lists l.beyond l.size l.initial.bound.items i) (num l.initial.bound.items i);
  room : length l.bound.items ≡ length l.initial.bound.items;
}
