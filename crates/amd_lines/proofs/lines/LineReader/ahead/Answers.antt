-- No more is taken than there is.
use Rattle.std.proofs.Common.{◌∙◌, ap, take}
use Rattle.amd_lines.proofs.LineLemmas.{take-least}
use Rattle.amd_lines.proofs.lines.LineReader.ahead.Goals as goal

pub returns : goal.returns
returns g c = c.split_at.ensures.front ∙ take-least c.args.self.now.longest c.min.result c.held-held.result.now c.min.ensures
    ∙ ap (take c.args.self.now.longest) c.held-held.ensures
