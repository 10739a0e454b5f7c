use Rattle.std.proofs.Common.{ℕ, List, take}
use Rattle.std.specs.Prelude.{slice_index}
use Rattle.amd_factor.specs.Columns.{HoldColumns}
use Rattle.amd_factor.specs.SupernodeLaws.{AreBlocksOf}
use Rattle.amd_factor.proofs.expanding.expanded.Given as goal

abbrev pub invariant-supernodes : goal.invariant-supernodes
invariant-supernodes g l = (columns : List (List ℕ)) → AreBlocksOf columns l.first l.ptr l.below l.over →
    HoldColumns (take (slice_index l.first l.s) columns) l.pointers.items l.rows.items l.parent.items
