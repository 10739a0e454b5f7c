use Rattle.std.proofs.Common.{ℕ, List, ◌≤◌, length, take}
use Rattle.amd_factor.specs.Columns.{HoldColumns}
use Rattle.amd_factor.specs.SupernodeLaws.{HaveBlock}
use Rattle.amd_factor.proofs.expanding.push_block.Given as goal

abbrev pub invariant-places : goal.invariant-places
invariant-places g l = (columns : List (List ℕ)) → l.end ≤ length columns → HaveBlock columns l.fn.from l.end l.below →
    HoldColumns (take l.fn.from columns) l.initial.ptr.items l.initial.rows.items l.initial.parent.items →
    HoldColumns (take l.k columns) l.ptr.items l.rows.items l.parent.items
