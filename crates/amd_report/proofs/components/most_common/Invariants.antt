-- The names of the classes stay.
use Rattle.std.proofs.Common.{◌≡◌, ℕ, length}
use Rattle.amd_report.specs.Passes.{AreNames}
use Rattle.amd_report.proofs.components.most_common.Given as goal

abbrev pub invariant-rows : goal.invariant-rows
invariant-rows l = record {
  size : length l.links ≡ length l.fn.links;
  names : (name : ℕ → ℕ) → AreNames name l.fn.links → AreNames name l.links;
}
