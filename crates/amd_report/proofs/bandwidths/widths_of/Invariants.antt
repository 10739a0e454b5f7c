-- The bandwidths with the entries of the columns so far.
use Rattle.amd_report.specs.Passes.{IsMostMet}
use Rattle.amd_report.specs.Shapes.{above, below}
use Rattle.amd_report.proofs.bandwidths.widths_of.Given as goal

abbrev pub invariant-columns : goal.invariant-columns
invariant-columns l = record {
  lower : IsMostMet l.a_p l.a_i l.column 0 below l.widths.lower;
  upper : IsMostMet l.a_p l.a_i l.column 0 above l.widths.upper;
}
