-- Where the first word is a field, what stands behind it is at fault.
use Rattle.std.proofs.Common.{◌∷◌, ap, ◌∙◌}
use Rattle.amd_lines.specs.Words.{words}
use Rattle.amd_market.specs.Headers.{lowered}
use Rattle.amd_market.proofs.headers.kind_of.Goals as goal

pub returns-in_default-symmetry_of-clause-fault : goal.returns-in_default-symmetry_of-clause-fault
returns-in_default-symmetry_of-clause-fault c = (
  c.in-Some-field_of.field,
  (
    lowered (words c.in-Some.rest.now),
    ap lowered c.in-Some.ensures.words ∙ ap (λ w. w ∷ lowered (words c.in-Some.rest.now)) c.in-Some-field_of.ensures,
  ),
)

pub returns-then-is_some-clause-fault : goal.returns-then-is_some-clause-fault
returns-then-is_some-clause-fault c = (
  c.in-Some-field_of.field,
  (
    lowered (words c.in-Some.rest.now),
    ap lowered c.in-Some.ensures.words ∙ ap (λ w. w ∷ lowered (words c.in-Some.rest.now)) c.in-Some-field_of.ensures,
  ),
)
