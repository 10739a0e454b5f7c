-- The rows so far stand in the list.
use Rattle.std.proofs.Common.{◌≡◌}
use Rattle.amd_command.specs.Needs.{standing_rows}
use Rattle.amd_command.proofs.needs.standing_order.Given as goal

abbrev pub invariant-rows : goal.invariant-rows
invariant-rows g l = l.order.items ≡ standing_rows l.row
