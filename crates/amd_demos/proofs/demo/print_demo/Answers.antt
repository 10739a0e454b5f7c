-- The ordering that was answered is what is written, and it stands behind the input.
use Rattle.std.proofs.Common.{rules, sym, ◌∙◌}
use Rattle.std.proofs.lemmas.List.{map-id}
use Rattle.std.proofs.Math.Facts.{to_z-of_z}
use Rattle.amd_demos.proofs.Orderings.{default-ordering}
use Rattle.amd_demos.proofs.Parts.{demo-behind, failure-behind}
use Rattle.amd_demos.proofs.demo.print_demo.Goals as goal

pub print_ordering-requires : goal.print_ordering-requires
print_ordering-requires g c = default-ordering _ _ _ _ _ _ _ _ _ c.deref.result.now _ c.deref-in-Ok.result.now _
    (search (rules, to_z-of_z)) c.default.ensures.0 c.default.ensures.1 (map-id _) (map-id _)
    (map-id _ ∙ sym c.deref.ensures.value) (map-id _ ∙ sym c.deref-in-Ok.ensures.value) c.in-Ok.ensures.ordering

pub returns-in-Ok-clause-ordered : goal.returns-in-Ok-clause-ordered
returns-in-Ok-clause-ordered g c = demo-behind _ _ _ _ _ _ _ _ c.in_ok-write_input.ensures c.print_ordering.ensures.ordered

pub returns-in-Ok-clause-failure : goal.returns-in-Ok-clause-failure
returns-in-Ok-clause-failure g c = failure-behind _ _ _ _ c.in_ok-write_input.ensures c.print_ordering.ensures.failure
