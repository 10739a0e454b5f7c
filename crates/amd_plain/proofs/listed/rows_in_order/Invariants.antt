use Rattle.std.proofs.Common.{◌≡◌, ◌++◌, ◌∷◌, [], take}
use Rattle.std.specs.Prelude.{flat_map}
use Rattle.amd_plain.specs.Views.{list_at}
use Rattle.amd_plain.proofs.listed.rows_in_order.Given as goal

abbrev pub invariant-elements : goal.invariant-elements
invariant-elements g l = l.p.items ≡ flat_map (λ e. list_at l.rows.items e ++ e ∷ []) (take l.e-index l.elements)
