-- The supernodes so far are laid.
use Rattle.std.proofs.Common.{ℕ, List}
use Rattle.amd_report.specs.Layouts.{AreLaid, AreWidths}
use Rattle.amd_report.proofs.layout.lay.Given as goal

abbrev pub invariant-supernodes : goal.invariant-supernodes
invariant-supernodes l =
    (first : List ℕ) → AreWidths first l.up l.width → AreLaid first l.up l.width l.left l.level l.next l.s

abbrev pub decreases-supernodes : goal.decreases-supernodes
decreases-supernodes l = l.s
