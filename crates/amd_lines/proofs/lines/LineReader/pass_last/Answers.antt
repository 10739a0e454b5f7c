-- What is held at the end of the input is the last line.
use Rattle.std.proofs.Common.{length, arith, ap}
use Rattle.amd_lines.proofs.LineLemmas.{ends-all}
use Rattle.amd_lines.proofs.lines.LineReader.pass_last.Goals as goal

pub pass_line-requires : goal.pass_line-requires
pass_line-requires g c =
    ends-all g.R.Read.remaining c.args.self.now (length c.held-count.result.now) (ap length c.held-count.ensures)
    (omega arith) c.requires.none
    c.requires.input
