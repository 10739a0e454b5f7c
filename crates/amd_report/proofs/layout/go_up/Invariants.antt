-- The supernodes so far go up.
use Rattle.std.proofs.Common.{◌≡◌, ◌<◌, ◌≤◌, ℕ, length}
use Rattle.std.specs.Prelude.{slice_index}
use Rattle.amd_report.specs.Layouts.{IsOver}
use Rattle.amd_report.proofs.layout.go_up.Given as goal

abbrev pub invariant-supernodes : goal.invariant-supernodes
invariant-supernodes l = (m : ℕ) → m < l.s →
    (m < slice_index l.up m) × (slice_index l.up m ≤ length l.up)
    × ((q : ℕ) → IsOver l.parents m q → slice_index l.up m ≡ q)
