-- A line whose words are no numbers spells no size.
use Rattle.amd_market.proofs.EntryLemmas.{shape-words}
use Rattle.amd_market.proofs.arrays.spelled_shape.Goals as goal

pub returns-in_err-count_of : goal.returns-in_err-count_of
returns-in_err-count_of c = rw c.from_residual-in_err-count_of.ensures (λ r k h. c.in_err-count_of.ensures r
    (shape-words c.args.line.now c.in_ok-first.first.now c.in_ok-first.second.now c.in_ok-first.ensures r k h).0)

pub returns-in_err-count_of-2 : goal.returns-in_err-count_of-2
returns-in_err-count_of-2 c = rw c.from_residual-in_err-count_of-2.ensures (λ r k h. c.in_err-count_of-2.ensures k
    (shape-words c.args.line.now c.in_ok-first.first.now c.in_ok-first.second.now c.in_ok-first.ensures r k h).1)
