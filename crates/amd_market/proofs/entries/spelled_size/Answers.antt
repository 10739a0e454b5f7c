-- A line whose words are no numbers spells no size.
use Rattle.amd_market.proofs.EntryLemmas.{size-words}
use Rattle.amd_market.proofs.entries.spelled_size.Goals as goal

pub returns-in_err-count_of : goal.returns-in_err-count_of
returns-in_err-count_of c = rw c.from_residual-in_err-count_of.ensures (λ r k e h. c.in_err-count_of.ensures r
    (size-words c.args.line.now c.in_ok-first.first.now c.in_ok-first.second.now c.in_ok-first.third.now c.in_ok-first.ensures r k e h).0)

pub returns-in_err-count_of-2 : goal.returns-in_err-count_of-2
returns-in_err-count_of-2 c = rw c.from_residual-in_err-count_of-2.ensures (λ r k e h. c.in_err-count_of-2.ensures k
    (size-words c.args.line.now c.in_ok-first.first.now c.in_ok-first.second.now c.in_ok-first.third.now c.in_ok-first.ensures r k e h).1.0)

pub returns-in_err-count_of-3 : goal.returns-in_err-count_of-3
returns-in_err-count_of-3 c = rw c.from_residual-in_err-count_of-3.ensures (λ r k e h. c.in_err-count_of-3.ensures e
    (size-words c.args.line.now c.in_ok-first.first.now c.in_ok-first.second.now c.in_ok-first.third.now c.in_ok-first.ensures r k e h).1.1)
