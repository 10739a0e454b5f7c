-- A line may be shorter than what is skipped.
use Rattle.std.proofs.Common.{◌∙◌, ap, drop}
use Rattle.amd_market.proofs.BoeingLemmas.{drop-least}
use Rattle.amd_market.proofs.fields.behind_bytes.Goals as goal

pub returns : goal.returns
returns c =
    c.split_at.ensures.back ∙ ap (λ m. drop m c.args.line.now) c.min.ensures ∙ drop-least c.args.count c.args.line.now
