-- The count so far.
use Rattle.std.proofs.Common.{◌≡◌}
use Rattle.std.specs.Prelude.{slice_index, ◌==◌}
use Rattle.amd_model.specs.Below.{count_below}
use Rattle.amd_report.proofs.components.count_first.Given as goal

abbrev pub invariant-rows : goal.invariant-rows
invariant-rows l = l.count ≡ count_below l.row (λ v. slice_index l.links v == v)
