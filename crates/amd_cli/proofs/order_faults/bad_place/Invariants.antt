-- The rows so far are marked.
use Rattle.amd_cli.specs.Orders.{AreSeen}
use Rattle.amd_cli.proofs.order_faults.bad_place.Given as goal

abbrev pub invariant-rows : goal.invariant-rows
invariant-rows l = AreSeen l.rows l.place l.seen
