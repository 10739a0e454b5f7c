-- No line was read yet, and no line feed stands in the bytes that were looked at.
use Rattle.std.proofs.Common.{◌≤◌, length}
use Rattle.amd_lines.specs.Blocks.{held_of}
use Rattle.amd_lines.specs.Lines.{KeepsRest, HasNoFeed}
use Rattle.amd_lines.proofs.lines.LineReader.take_line.Given as goal

abbrev pub invariant-chunks : goal.invariant-chunks
invariant-chunks g l = KeepsRest g.R.Read.remaining l.fn.self l.self × (l.seen ≤ length (held_of l.self.block)) ×
    HasNoFeed l.seen (held_of l.self.block)
