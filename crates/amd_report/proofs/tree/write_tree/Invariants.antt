-- The parents so far are written.
use Rattle.std.proofs.Common.{take}
use Rattle.std.specs.Io.KnownBytes.{Appends}
use Rattle.amd_report.specs.Texts.{tree_lines}
use Rattle.amd_report.proofs.tree.write_tree.Given as goal

abbrev pub invariant-columns : goal.invariant-columns
invariant-columns g l =
    Appends (g.W.Write.contents l.fn.out) (g.W.Write.contents l.out) (tree_lines (take l.parent-index l.parents))
