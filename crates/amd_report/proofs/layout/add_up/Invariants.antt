-- The supernodes so far are added to those that they go up to.
use Rattle.amd_report.proofs.Laying.{Adding}
use Rattle.amd_report.proofs.layout.add_up.Given as goal

abbrev pub invariant-supernodes : goal.invariant-supernodes
invariant-supernodes l = Adding l.up l.fn.width l.width l.s
