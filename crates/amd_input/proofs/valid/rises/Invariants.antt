use Rattle.std.proofs.Common.{◌≡◌, ℤ, List, true, false, map}
use Rattle.amd_input.specs.Scans.{Rise, HaveDescent}
use Rattle.amd_input.proofs.valid.rises.Given as goal

abbrev pub invariant-rows : goal.invariant-rows
invariant-rows g l = let ai : List ℤ = map g.I.Index.value l.a_i in record {
  rise : l.rising ≡ true → Rise ai l.from l.k;
  descend : l.rising ≡ false → HaveDescent ai l.from l.k;
}
