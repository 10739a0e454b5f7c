use Rattle.std.proofs.Common.{◌≡◌, ◌≤◌, map}
use Rattle.std.specs.Vec.{vec_capacity}
use Rattle.amd_model.specs.Below.{count_below}
use Rattle.amd_types.specs.Naturals.{naturals, is_entry}
use Rattle.amd_input.specs.LowerRows.{AreLow}
use Rattle.amd_input.specs.Mirrors.{CountOthers}
use Rattle.amd_input.proofs.lower.own_degrees.Given as goal

abbrev pub invariant-columns : goal.invariant-columns
invariant-columns g l = let ap' = naturals (map g.I.Index.value l.a_p) in let ai = naturals (map g.I.Index.value l.a_i) in record {
  others : CountOthers l.size ap' ai l.k l.degrees.items;
  low : AreLow l.size ap' ai l.k;
  count : l.diagonals ≡ count_below l.k (λ j. is_entry l.size ap' ai j j);
  small : l.diagonals ≤ l.k;
  room : vec_capacity l.degrees ≡ vec_capacity l.fn.degrees;
}
