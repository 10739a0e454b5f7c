-- Four numbers, and what stands behind them.
use Rattle.amd_market.proofs.CardLemmas.{counts-option}
use Rattle.amd_market.proofs.cards.sides_of.Goals as goal

pub returns : goal.returns
returns c =
    let first = c.in_ok-rest.ensures in
    let second = c.in_ok-rest-2.ensures in
    let third = c.in_ok-rest-3.ensures in
    let fourth = c.in_ok-rest-4.ensures in
    counts-option _ _ _ _ _ first.0 second.0 third.0 fourth.0 c.sides_in.result first.1 second.1 third.1 fourth.1 (_, first.2)
    (_, second.2) (_, third.2) (_, fourth.2) c.sides_in.ensures
