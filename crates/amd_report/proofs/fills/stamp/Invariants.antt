-- The later neighbours so far are stamped.
use Rattle.std.proofs.Common.{◌≡◌, ◌+◌, ◌<◌, ◌≤◌, ◌↔◌, ℕ, length, take}
use Rattle.std.specs.Prelude.{Contains, slice_index}
use Rattle.amd_report.proofs.fills.stamp.Given as goal

abbrev pub invariant-rows : goal.invariant-rows
invariant-rows l =
    (length l.edge ≡ length l.fn.edge)
    × ((j : ℕ) → j < length l.fn.edge → (slice_index l.edge j ≡ l.k + 1) ↔ Contains (take l.row-index l.later) j)
    × ((j : ℕ) → slice_index l.edge j ≤ l.k + 1)
