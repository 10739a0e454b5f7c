-- A line that is too long is named, and is the next one.
use Rattle.amd_lines.specs.Blocks.{held_of}
use Rattle.std.proofs.Common.{arith}
use Rattle.amd_lines.proofs.LineLemmas.{fails-next, held-some, if-long, long-next}
use Rattle.amd_lines.proofs.lines.LineReader.pass_line.Goals as goal

pub returns-then-count-self-clause-fails : goal.returns-then-count-self-clause-fails
returns-then-count-self-clause-fails g c =
    let held = held_of c.args.self.now.block in
    let within = c.requires.within in
    let some = c.requires.some in
    fails-next g.R.Read.remaining c.args.self.now c.refuse_line.result.line c.refuse_line.ensures.named
    (held-some held (g.R.Read.remaining c.args.self.now.input) (omega (arith, within, some)))

pub returns-then-count-self-clause-long : goal.returns-then-count-self-clause-long
returns-then-count-self-clause-long g c =
    let more = c.if-count-self.true in
    if-long c.refuse_line.result.cause
    (long-next g.R.Read.remaining c.args.self.now c.args.count c.refuse_line.result.line c.requires (omega (arith, more))
    c.refuse_line.ensures.named)
