-- The lines so far were read, and none of them says anything.
use Rattle.std.proofs.Common.{◌≡◌, ℕ, List, []}
use Rattle.amd_lines.specs.Lines.{TakesLines, telling}
use Rattle.amd_lines.proofs.lines.LineReader.take_telling.Given as goal

abbrev pub invariant-lines : goal.invariant-lines
invariant-lines g l = (ls : List (List ℕ)) × TakesLines g.R.Read.remaining l.fn.self l.self ls × (telling l.fn.mark ls ≡ [])
