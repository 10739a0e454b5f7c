-- The record, the permutations and the plot are written one after another, of the ordering that was given.
use Rattle.std.proofs.Common.{rules, refl, sym, ◌∙◌}
use denote.Enum.Bare.{same_true}
use Rattle.amd_types.specs.contracts.amd.Status.{the_type}
use Rattle.amd_texts.proofs.Written.{Appends-then}
use Rattle.amd_demos.proofs.Parts.{demo-ended, failure-after, failure-ended}
use Rattle.amd_demos.proofs.demo.print_ordering.Goals as goal

pub returns-then-eq-clause-ordered : goal.returns-then-eq-clause-ordered
returns-then-eq-clause-ordered g c =
    let up_to_2 = Appends-then _ _ _ _ _ c.in_ok-write_record.ensures c.in_ok-write_permutations.ensures in
    let status = same_true the_type (search rules) _ _ (sym c.if-eq.ensures) ∙ c.wanted_status.ensures in
    demo-ended _ _ _ _ _ _ _ _ _ _ _ _ _ refl (record { ordering = c.requires; status = status }) up_to_2
    c.in_ok-write_permuted_plot.ensures c.print_end.ensures.ended

pub returns-then-eq-clause-failure : goal.returns-then-eq-clause-failure
returns-then-eq-clause-failure g c =
    let up_to_2 = Appends-then _ _ _ _ _ c.in_ok-write_record.ensures c.in_ok-write_permutations.ensures in
    failure-ended _ _ _ _ _ _ up_to_2 c.in_ok-write_permuted_plot.ensures c.print_end.ensures.failure

pub returns-clause-failure : goal.returns-clause-failure
returns-clause-failure g c = λ _. failure-after _ _ _ _ c.in_ok-write_record.ensures c.in_ok-write_failure.ensures
