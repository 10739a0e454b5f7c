-- The inverse that is dropped is the one that was answered.
use Rattle.std.proofs.Common.{map, pos}
use Rattle.amd_command.proofs.analysis.analyze_matrix.Goals as goal

pub returns-in_ok-p-in-Some-clause-ordering : goal.returns-in_ok-p-in-Some-clause-ordering
returns-in_ok-p-in-Some-clause-ordering g c = (
  map pos c.in_ok-p-in-Some.field-0-1.items,
  rw c.in-Some.is
      (rw (c.deref.ensures.value, c.deref-in-Some.ensures.value) at c.in_ok-p-in-Some.ensures.ordering),
)

pub returns-in_ok-p-in-None-clause-ordering : goal.returns-in_ok-p-in-None-clause-ordering
returns-in_ok-p-in-None-clause-ordering g c = (
  map pos c.in_ok-p-in-None.field-0-1.items,
  rw c.in-None.is
      (rw (c.deref-in-None.ensures.value, c.deref-in-None-2.ensures.value) at c.in_ok-p-in-None.ensures.ordering),
)
