-- The inverse that is dropped is the one that was returned.
use Rattle.std.proofs.Common.{map, pos, rules}
use Rattle.std.specs.Option.{option_copied}
use Rattle.amd.specs.Answers.{IsRefusalHolding}
use Rattle.amd_command.proofs.ordering.order_matrix.Goals as goal

pub returns-clause-ordering : goal.returns-clause-ordering
returns-clause-ordering g c = (
  map pos c.in_ok-p.field-0-1.items,
  rw (c.deref.ensures.value, c.deref-2.ensures.value) at c.in_ok-p.ensures.ordering,
)

pub returns-in_err-p-clause-refusal : goal.returns-in_err-p-clause-refusal
returns-in_err-p-clause-refusal g c =
    let matrix = c.args.matrix.now in
    let refused : IsRefusalHolding (option_copied c.args.hold) (pos matrix.n) (map pos matrix.a_p.items) (map pos matrix.a_i.items)
    c.in_err-p.field-0.0 = rw (c.deref.ensures.value, c.deref-2.ensures.value) at c.in_err-p.ensures.refusal in
    search rules
