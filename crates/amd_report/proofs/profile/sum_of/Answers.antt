-- Each turn adds one row.
use Rattle.std.proofs.Common.{◌-◌, arith, sym}
use Rattle.std.specs.Prelude.{slice_index}
use Rattle.amd_count_laws.proofs.Sums.{sum-next, sum-none}
use Rattle.amd_report.proofs.profile.sum_of.Goals as goal

pub rows-init : goal.rows-init
rows-init c = record { sum = sym (sum-none _); small = omega arith }

pub rows-preserved : goal.rows-preserved
rows-preserved c =
    let next = sum-next (λ i. i - slice_index c.args.firsts.now i) c.rows.row in
    let so_far = c.rows.invariant.sum in
    let small = c.rows.invariant.small in
    let added = c.saturating_sub.ensures in
    let fits = c.saturating_sub.type_inv in
    record { sum = omega (arith, next, so_far, added); small = omega (arith, small, fits) }
