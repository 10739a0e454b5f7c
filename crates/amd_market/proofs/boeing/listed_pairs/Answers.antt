-- Each turn adds the pairs of one column more.
use Rattle.std.proofs.Common.{◌≡◌, ◌∙◌, add-one, ap, arith}
use Rattle.std.specs.Prelude.{flat_map}
use borrow.Author.Count.{falls}
use Rattle.amd_market.specs.Headers.{pairs_of}
use Rattle.amd_market.specs.Boeing.{listed_entries}
use Rattle.amd_market.proofs.BoeingLemmas.{listed-more}
use Rattle.amd_market.proofs.UnreadLemmas.{no-value}
use Rattle.amd_market.proofs.boeing.listed_pairs.Goals as goal

pub columns-init : goal.columns-init
columns-init g c = c.pairs_for-pairs.ensures

pub own_rows-own-requires : goal.own_rows-own-requires
own_rows-own-requires g c = record { pointers = (c.args.kind.n, c.columns-test.true, c.requires) }

pub returns-in_err-add_column : goal.returns-in_err-add_column
returns-in_err-add_column g c = no-value _ _ c.from_residual.result c.from_residual.ensures.1

pub columns-smaller : goal.columns-smaller
columns-smaller g c = falls c.args.kind.n c.columns.column c.columns-test.true

pub columns-preserved : goal.columns-preserved
columns-preserved g c =
    rw add-one (listed-more c.args.kind.letters.symmetry c.args.pointers.now c.args.rows.now c.own_rows-own.result.now _ _ c.columns.column
    c.columns.invariant c.own_rows-own.ensures c.in_ok-add_column.ensures)

pub returns : goal.returns
returns g c =
    let kind = c.args.kind.letters.symmetry in
    let end : c.columns.column ≡ c.args.kind.n =
    (let x = c.columns-test.false in let y = c.columns.auto.column-end in omega (arith, x, y)) in
    c.columns.invariant ∙ ap (λ k. flat_map (pairs_of kind) (listed_entries c.args.pointers.now c.args.rows.now k)) end
