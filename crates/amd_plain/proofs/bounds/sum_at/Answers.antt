use Rattle.std.proofs.Common.{◌+◌, arith, ap, ◌∙◌}
use Rattle.std.specs.Prelude.{sum_by}
use Rattle.std.proofs.lemmas.List.{take_all}
use Rattle.std.proofs.lemmas.List.Sums.{sum_by_more}
use Rattle.amd_model.specs.Figures.{cut}
use Rattle.amd_plain.specs.Views.{num}
use Rattle.amd_round_laws.proofs.Lists.Cuts.{cut_more, cut_small, cut_min}
use Rattle.amd_plain.proofs.bounds.sum_at.Goals as goal

pub loop-j-init : goal.loop-j-init
loop-j-init c = let fits = c.ranges.first.fits in cut_small c.args.first (omega (arith, fits)) ∙ ap cut (omega arith)

pub loop-j-preserved : goal.loop-j-preserved
loop-j-preserved c =
    let ns = c.args.numbers.now in
    let xs = c.args.list.now in
    let k = c.loop-j.j-index in
    let more = sum_by_more (num ns) xs k 0 c.loop-j-test.true in
    c.saturating_add-total.ensures ∙ cut_min _ ∙ cut_more c.loop-j.total _ _ c.loop-j.invariant ∙ ap cut (omega (arith, more))

pub returns : goal.returns
returns c = c.loop-j.invariant ∙ ap (λ ys. cut (c.args.first + sum_by (num c.args.numbers.now) ys))
    (take_all c.loop-j.j-index c.args.list.now c.loop-j-test.false)
