-- The rows that are stamped are those of the later neighbours.
use Rattle.amd_report.proofs.Sifting.{column-adds, ready-next}
use Rattle.amd_report.proofs.fills.sift_column.Goals as goal

pub returns-clause-adds : goal.returns-clause-adds
returns-clause-adds g c end below ready =
    column-adds _ _ _ _ _ _ _ _ _ _ c.stamp.ensures.size c.requires.column c.stamp.ensures.stamped ready c.in_ok-sift.ensures

pub returns-clause-ready : goal.returns-clause-ready
returns-clause-ready g c end below column ready =
    ready-next _ _ _ _ _ _ _ _ _ c.stamp.ensures.size column ready c.in_ok-sift.ensures
