-- Each turn reads one column more.
use Rattle.std.proofs.Common.{[], add-one, arith}
use Rattle.amd_market.proofs.ArrayLemmas.{values-none, values-append, first-within}
use Rattle.amd_market.proofs.FaultLemmas.{for-behind, handed-on}
use Rattle.amd_market.proofs.StopLemmas.{array-split, values-behind}
use borrow.Author.Count.{falls}
use Rattle.amd_market.proofs.UnreadLemmas.{no-value}
use Rattle.amd_market.proofs.dense.take_values.Goals as goal

pub columns-init : goal.columns-init
columns-init g c = rw c.new-pairs.ensures.items (values-none _ _ _ [])

pub take_column-requires-clause-rows : goal.take_column-requires-clause-rows
take_column-requires-clause-rows g c =
    let within = first-within c.args.header.symmetry c.columns.column in
    let first = c.first_row-first.ensures in
    omega (arith, within, first)

pub returns-in_err-take_column-clause-takes : goal.returns-in_err-take_column-clause-takes
returns-in_err-take_column-clause-takes g c = no-value _ _ c.from_residual.result c.from_residual.ensures.1

pub columns-smaller : goal.columns-smaller
columns-smaller g c = falls c.args.n c.columns.column c.columns-test.true

pub returns-in_err-take_column-clause-fails : goal.returns-in_err-take_column-clause-fails
returns-in_err-take_column-clause-fails g c =
    let inv = c.columns.invariant in
    let split = array-split c.args.header.symmetry c.args.n c.columns.column (omega arith) in
    let fails = rw c.first_row-first.ensures at c.in_err-take_column.ensures.fails in
    handed-on _ c.from_residual.result c.from_residual.ensures.1 (for-behind _ _ _ inv.lines _ inv.takes
    (λ s h. values-behind _ _ _ _ _ _ split.0 _ _ _ inv s split.1 h) fails)

pub columns-preserved : goal.columns-preserved
columns-preserved g c =
    let more = rw c.first_row-first.ensures at c.in_ok-take_column.ensures.takes in
    rw add-one (values-append _ _ _ _ _ _ _ _ _ _ c.columns.invariant more)
