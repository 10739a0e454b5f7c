use Rattle.std.proofs.Common.{◌≡◌, ◌++◌, ◌+◌, ◌-◌}
use Rattle.std.specs.List.{range_with_len}
use Rattle.amd_factor.proofs.expanding.push_entries.Given as goal

abbrev pub invariant-block : goal.invariant-block
invariant-block g l = l.rows.items ≡ l.initial.rows.items ++ range_with_len (l.fn.k + 1) (l.j - (l.fn.k + 1))
