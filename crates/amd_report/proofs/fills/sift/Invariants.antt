-- The open rows so far are sifted.
use Rattle.std.proofs.Common.{take}
use Rattle.amd_report.specs.Fills.{Sifts}
use Rattle.amd_report.proofs.fills.sift.Given as goal

abbrev pub invariant-open : goal.invariant-open
invariant-open g l = Sifts l.fn.grid l.grid l.k l.edge (take l.row-index l.open) l.kept.items
