-- The count so far.
use Rattle.std.proofs.Common.{◌≡◌, ◌+◌}
use Rattle.std.specs.Prelude.{slice_index}
use Rattle.amd_model.specs.Below.{count_below}
use Rattle.amd_types.specs.Naturals.{is_before}
use Rattle.amd_report.proofs.signs.count_diagonal.Given as goal

abbrev pub invariant-columns : goal.invariant-columns
invariant-columns l = l.count ≡ count_below l.column (λ v. is_before l.a_p l.a_i (slice_index l.a_p (v + 1)) v v)
