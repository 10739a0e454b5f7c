-- Each turn adds the pairs of one row more.
use Rattle.std.proofs.Common.{◌≡◌, ◌+◌, ◌<◌, ◌++◌, ◌∙◌, ℕ, List, length, append-nil, append_assoc, ap, arith, get_or, sym, take}
use Rattle.std.specs.Prelude.{flat_map}
use Rattle.std.proofs.lemmas.List.{take_all}
use Rattle.amd_market.specs.Headers.{pairs_of}
use Rattle.amd_market.specs.Boeing.{column_entries}
use Rattle.amd_market.specs.declared.headers.Symmetry.{Symmetry}
use Rattle.amd_market.proofs.BoeingLemmas.{column-more}
use Rattle.amd_market.proofs.boeing.add_column.Goals as goal

added : (kind : Symmetry) (rows : List ℕ) (i column : ℕ) (old before new : List (ℕ × ℕ)) → i < length rows →
    before ≡ old ++ flat_map (pairs_of kind) (column_entries (take i rows) column) →
    new ≡ before ++ pairs_of kind (get_or rows i 0, column) →
    new ≡ old ++ flat_map (pairs_of kind) (column_entries (take (i + 1) rows) column)
added kind rows i column old before new l so_far more =
    let here = pairs_of kind (get_or rows i 0, column) in
    more ∙ ap (λ z. z ++ here) so_far ∙ append_assoc old (flat_map (pairs_of kind) (column_entries (take i rows) column)) here
    ∙ ap (λ z. old ++ z) (sym (column-more kind rows i column 0 l))

pub rows-init : goal.rows-init
rows-init g c = sym (append-nil c.args.pairs.now.items)

pub rows-preserved : goal.rows-preserved
rows-preserved g c =
    let i = c.rows.row-index in
    let rows = c.args.rows.now in
    let kind = c.args.symmetry in
    let column = c.args.column in
    let old = c.args.pairs.now.items in
    added kind rows i column old c.rows.pairs.items c.add_pairs.new.pairs.items c.rows-test.true c.rows.invariant
    c.in_ok-add_pairs.ensures

pub returns : goal.returns
returns g c = let all = take_all c.rows.row-index c.args.rows.now (omega arith) in rw all at c.rows.invariant
