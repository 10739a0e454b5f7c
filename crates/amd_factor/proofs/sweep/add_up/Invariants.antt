use Rattle.std.proofs.Common.{◌≡◌, ◌+◌, ◌<◌, ◌≤◌, ℕ}
use Rattle.std.specs.Prelude.{slice_index}
use Rattle.amd_factor.specs.Meetings.{sum_to}
use Rattle.amd_factor.proofs.sweep.add_up.Given as goal

abbrev pub invariant-numbers : goal.invariant-numbers
invariant-numbers l = record {
  before : (i : ℕ) → i < l.k → slice_index l.numbers i ≡ sum_to l.fn.numbers (i + 1);
  rest : (i : ℕ) → l.k ≤ i → slice_index l.numbers i ≡ slice_index l.fn.numbers i;
  total : l.total ≡ sum_to l.fn.numbers l.k;
}
