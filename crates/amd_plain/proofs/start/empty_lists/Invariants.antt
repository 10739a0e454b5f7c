use Rattle.std.proofs.Common.{◌≡◌, ◌≤◌, ℕ, [], length}
use Rattle.std.specs.Vec.{vec_capacity}
use Rattle.amd_plain.specs.Views.{list_at}
use Rattle.amd_plain.proofs.start.empty_lists.Given as goal

abbrev pub invariant-rows : goal.invariant-rows
invariant-rows g l = record {
  room : l.n ≤ vec_capacity l.lists;
  size : length l.lists.items ≡ l.counter;
  empty : (i : ℕ) → list_at l.lists.items i ≡ [];
}
