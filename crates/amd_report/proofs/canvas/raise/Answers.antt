-- The cells past the last one are as they were.
use Rattle.std.proofs.Common.{inl, inr, arith, ⊎_elim}
use Rattle.std.proofs.lemmas.Bool.{cases_lt}
use Rattle.amd_report.proofs.canvas.raise.Goals as goal

pub returns-clause-others : goal.returns-clause-others
returns-clause-others c cell (inl low) = c.cells.invariant.1 cell (inl low)
returns-clause-others c cell (inr high) = ⊎_elim
    (λ low. c.cells.invariant.1 cell (inl low))
    (λ not. c.cells.invariant.1 cell (inr (let i = c.cells.invariant.2 in omega (arith, i, high, not))))
    (cases_lt cell c.args.from)
