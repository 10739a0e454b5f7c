-- The back is a number, or has one on each side of its point.
use Rattle.amd_market.proofs.CardLemmas.{width-option, width-parts, pointed-option}
use Rattle.amd_market.proofs.fields.width_of.Goals as goal

pub returns-in_default : goal.returns-in_default
returns-in_default c = width-option c.args.back.now c.count_of.result c.in_default.ensures c.count_of.ensures

pub returns-in_err-count_of : goal.returns-in_err-count_of
returns-in_err-count_of c =
    let both = c.in-Some.ensures in
    rw c.from_residual.ensures (λ w h.
    let parts = width-parts c.args.back.now c.in-Some.front.now c.in-Some.digits.now both.0 both.1 w h in
    c.in_err-count_of.ensures parts.1.0 parts.1.1)

pub returns : goal.returns
returns c =
    let both = c.in-Some.ensures in
    pointed-option c.args.back.now c.in-Some.front.now c.in-Some.digits.now _ c.count_of-3.result both.0 both.1
    c.in_ok-count_of.ensures c.count_of-3.ensures
