-- The ordering that was written is the one that `order` answered.
use Rattle.std.proofs.Common.{rules, sym, ◌∙◌}
use Rattle.std.proofs.lemmas.List.{map-id}
use Rattle.std.proofs.Math.Facts.{to_z-of_z}
use denote.Enum.Bare.{same_true}
use Rattle.amd_types.specs.contracts.amd.Status.{the_type}
use Rattle.amd_demos.proofs.Orderings.{default-ordering}
use Rattle.amd_demos.proofs.simple.print_outcome.Goals as goal

pub returns-in_ok-write_ordering-in-Ok-clause-ordered : goal.returns-in_ok-write_ordering-in-Ok-clause-ordered
returns-in_ok-write_ordering-in-Ok-clause-ordered g c = λ _. record {
  p = c.deref.result.now;
  q = c.deref-in-Ok.result.now;
  info = c.in-Ok.told;
  wanted = record {
    ordering = default-ordering _ _ _ _ _ _ _ _ _ _ _ _ _ (to_z-of_z c.ranges.n) c.default.ensures.0 c.default.ensures.1 (map-id _)
        (map-id _) (map-id _ ∙ sym c.deref.ensures.value) (map-id _ ∙ sym c.deref-in-Ok.ensures.value) c.in-Ok.ensures.ordering;
    status = same_true the_type (search rules) _ _ (sym c.if-eq.ensures);
  };
  text = c.in_ok-write_ordering-in-Ok.ensures;
}
