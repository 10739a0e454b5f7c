-- The pairs of the columns so far.
use Rattle.std.proofs.Common.{◌≡◌}
use Rattle.amd_command.specs.Permuted.{pairs_up_to}
use Rattle.amd_command.proofs.permuted.placed_entries.Given as goal

abbrev pub invariant-columns : goal.invariant-columns
invariant-columns g l = l.pairs.items ≡ pairs_up_to l.places l.matrix.a_p.items l.matrix.a_i.items l.j
