-- The lines of the supernodes so far are written.
use Rattle.std.specs.Io.KnownBytes.{Appends}
use Rattle.amd_report.specs.Texts.{supernode_lines}
use Rattle.amd_report.proofs.tree.write_supernodes.Given as goal

abbrev pub invariant-supernodes : goal.invariant-supernodes
invariant-supernodes g l =
    Appends (g.W.Write.contents l.fn.out) (g.W.Write.contents l.out) (supernode_lines l.first l.ptr l.parents l.s)
