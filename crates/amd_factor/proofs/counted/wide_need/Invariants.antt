use Rattle.std.proofs.Common.{◌≡◌, ℕ, List, take, map, length}
use Rattle.amd_factor.specs.Counted.{IsCutNeed}
use Rattle.amd_factor.proofs.counted.wide_need.Given as goal

abbrev pub invariant-columns : goal.invariant-columns
invariant-columns l = (columns : List (List ℕ)) → l.sizes ≡ map length columns → IsCutNeed (take l.size-index columns) l.need
