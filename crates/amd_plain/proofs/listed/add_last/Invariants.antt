use Rattle.std.proofs.Common.{◌≡◌, ◌++◌, ◌&&◌, is_none}
use Rattle.std.specs.Prelude.{nat_eq}
use Rattle.amd_model.specs.Below.{list_below}
use Rattle.amd_plain.specs.Views.{num, some_at}
use Rattle.amd_plain.proofs.listed.add_last.Given as goal

abbrev pub invariant-rows : goal.invariant-rows
invariant-rows g l = l.p.items ≡ l.fn.p.items ++ list_below l.v (λ v. is_none (some_at l.link v) && nat_eq (num l.block v) 0)
