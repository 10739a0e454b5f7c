use Rattle.std.proofs.Common.{ℕ, List, [], ◌≡◌, ◌++◌, length}
use Rattle.amd_plain.specs.Views.{Below}
use Rattle.amd_plain.specs.ListsByBound.{live_in}
use Rattle.amd_plain.proofs.by_bound.last_placed.Given as goal

abbrev pub invariant-loop-i : goal.invariant-loop-i
invariant-loop-i g l = record {
  range : Below (length l.size) l.list.items;
  tail : (tail : List ℕ) × (l.fn.list.items ≡ l.list.items ++ tail) × (live_in l.size l.bound l.least tail ≡ []);
}

abbrev pub decreases-loop-i : goal.decreases-loop-i
decreases-loop-i g l = goal.left-loop-i g l
