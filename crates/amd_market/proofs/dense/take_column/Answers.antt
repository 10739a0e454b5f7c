-- Each turn reads the value of one place more.
use Rattle.std.proofs.Common.{◌∷◌, [], arith}
use Rattle.amd_market.proofs.ArrayLemmas.{values-none, values-append, column-none, column-next}
use Rattle.amd_market.proofs.FaultLemmas.{for-behind, handed-on}
use Rattle.amd_market.proofs.StopLemmas.{column-split, values-behind}
use borrow.Author.Count.{falls}
use Rattle.amd_market.proofs.UnreadLemmas.{no-value}
use Rattle.amd_market.proofs.dense.take_column.Goals as goal

pub rows-init : goal.rows-init
rows-init g c = rw (column-none c.args.first c.args.column) (values-none _ _ _ _)

pub returns-in_err-take_place-clause-takes : goal.returns-in_err-take_place-clause-takes
returns-in_err-take_place-clause-takes g c = no-value _ _ c.from_residual.result c.from_residual.ensures.1

pub rows-smaller : goal.rows-smaller
rows-smaller g c = falls c.args.n c.rows.row c.rows-test.true

pub returns-in_err-take_place-clause-fails : goal.returns-in_err-take_place-clause-fails
returns-in_err-take_place-clause-fails g c =
    let inv = c.rows.invariant in
    let split = column-split c.args.first c.args.column c.rows.row c.args.n (omega arith) (omega arith) in
    handed-on _ c.from_residual.result c.from_residual.ensures.1 (for-behind _ _ _ inv.lines _ inv.takes
    (λ s h. values-behind _ _ _ _ _ _ split.0 _ _ _ inv s split.1 h) c.in_err-take_place.ensures.fails)

pub rows-preserved : goal.rows-preserved
rows-preserved g c =
    let next = column-next c.args.first c.args.column c.rows.row (omega arith) in
    rw (← next) (values-append _ _ _ _ _ _ ((c.rows.row, c.args.column) ∷ []) _ _ _ c.rows.invariant c.in_ok-take_place.ensures.takes)
