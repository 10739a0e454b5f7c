use Rattle.std.proofs.Common.{pos, ◌≡◌, ◌++◌, map, take, drop}
use Rattle.amd_lending.proofs.clear.Given as goal

abbrev pub invariant-loop-i : goal.invariant-loop-i
invariant-loop-i l = record {
  items : l.numbers ≡ map (λ x. pos 0) (take l.i l.fn.numbers) ++ drop l.i l.fn.numbers;
}
