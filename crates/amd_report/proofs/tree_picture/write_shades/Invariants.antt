-- The shades so far are told.
use Rattle.std.proofs.Common.{ℕ, List}
use Rattle.std.specs.Prelude.{codes}
use Rattle.std.specs.Io.KnownBytes.{Appends}
use Rattle.amd_report.specs.Pictures.{TellsShades}
use Rattle.amd_report.proofs.tree_picture.write_shades.Given as goal

abbrev pub invariant-shades : goal.invariant-shades
invariant-shades g l = (text : List ℕ) × TellsShades l.side l.shades (codes "#1f4e79") l.shade text ×
    Appends (g.W.Write.contents l.fn.out) (g.W.Write.contents l.out) text
