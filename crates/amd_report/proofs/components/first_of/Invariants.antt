-- The row is one of the class, and the names of the classes stay.
use Rattle.std.proofs.Common.{◌≡◌, ◌<◌, ℕ, length}
use Rattle.amd_report.specs.Passes.{AreNames}
use Rattle.amd_report.proofs.components.first_of.Given as goal

abbrev pub invariant-up : goal.invariant-up
invariant-up l = record {
  inside : l.at < length l.links;
  some : (name : ℕ → ℕ) × AreNames name l.links;
  names : (name : ℕ → ℕ) → AreNames name l.fn.links → AreNames name l.links × (name l.at ≡ name l.row);
}

abbrev pub decreases-up : goal.decreases-up
decreases-up l = l.at
