-- The widths so far are those of the columns.
use Rattle.std.proofs.Common.{◌≡◌, ◌<◌, ℕ}
use Rattle.std.specs.Prelude.{slice_index}
use Rattle.amd_count_laws.specs.Parts.{part_size}
use Rattle.amd_report.proofs.layout.write_own.Given as goal

abbrev pub invariant-supernodes : goal.invariant-supernodes
invariant-supernodes l = (m : ℕ) → m < l.s → slice_index l.width m ≡ part_size l.first m
