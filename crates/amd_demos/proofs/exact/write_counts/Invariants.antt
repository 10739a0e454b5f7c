use Rattle.std.proofs.Common.{ℕ, List, take}
use Rattle.std.specs.Io.KnownBytes.{Appends}
use Rattle.amd_factor.specs.Needs.{TellSizes}
use Rattle.amd_demos.specs.Exact.{column_counts}
use Rattle.amd_demos.proofs.exact.write_counts.Given as goal

abbrev pub invariant-columns : goal.invariant-columns
invariant-columns g l =
    (columns : List (List ℕ)) → TellSizes columns l.ptr
    → Appends (g.W.Write.contents l.fn.out) (g.W.Write.contents l.out) (column_counts (take l.k columns))
