-- The parts were read one after another; an error of a part names its line behind those of the parts before.
use Rattle.std.proofs.Common.{◌++◌, refl}
use Rattle.amd_lines.proofs.LineLemmas.{takes-append}
use Rattle.amd_market.specs.Stops.{in_pointers, in_rows}
use Rattle.amd_market.proofs.FaultLemmas.{for-behind, for-machine, for-weaker, handed-on}
use Rattle.amd_market.proofs.StopLemmas.{table-first}
use Rattle.amd_market.proofs.BoeingLemmas.{boeing-inside, table-within, table-size}
use Rattle.amd_market.proofs.boeing.take_columns.Goals as goal

pub returns-in_err-pointers-clause-fails : goal.returns-in_err-pointers-clause-fails
returns-in_err-pointers-clause-fails g c = handed-on _ c.from_residual.result c.from_residual.ensures.1
    (for-weaker _ _ _ (λ s h. in_pointers h) c.in_err-pointers.ensures.fails)

pub returns-in_err-rows-clause-fails : goal.returns-in_err-rows-clause-fails
returns-in_err-rows-clause-fails g c =
    let first = c.in_ok-pointers.ensures.takes in
    handed-on _ c.from_residual-in_err-rows.result c.from_residual-in_err-rows.ensures.1
    (for-behind _ _ _ first.0 _ first.1
    (λ s h. in_rows first.0 _ first.2 c.in_ok-pointers.ensures.pointers (table-first _ _ _ _ first.0 s h))
    c.in_err-rows.ensures.fails)

pub listed_pairs-requires : goal.listed_pairs-requires
listed_pairs-requires g c =
    let second = c.in_ok-rows.ensures.takes in
    let size = table-size c.args.layout.rows _ _ second.0 c.in_ok-rows.rows.items second.2 in
    rw (c.deref.ensures.value, c.deref-2.ensures.value, size) c.in_ok-pointers.ensures.pointers

pub returns-in-Ok-clause-takes : goal.returns-in-Ok-clause-takes
returns-in-Ok-clause-takes g c =
    let first = c.in_ok-pointers.ensures.takes in
    let second = c.in_ok-rows.ensures.takes in (
      first.0 ++ second.0,
      takes-append _ _ _ _ first.0 second.0 first.1 second.1,
      record {
        pointer_lines = first.0;
        row_lines = second.0;
        parts = refl;
        pointers = c.in_ok-pointers.pointers.items;
        rows = c.in_ok-rows.rows.items;
        has_pointers = first.2;
        has_rows = second.2;
        are_pointers = c.in_ok-pointers.ensures.pointers;
        pairs_are = (rw (c.deref.ensures.value, c.deref-2.ensures.value) at c.in-Ok.ensures);
      },
    )

pub returns-in-Ok-clause-inside : goal.returns-in-Ok-clause-inside
returns-in-Ok-clause-inside g c =
    let second = c.in_ok-rows.ensures.takes in
    let within = table-within c.args.layout.rows _ _ second.0 c.in_ok-rows.rows.items second.2 in
    let are = rw (c.deref.ensures.value, c.deref-2.ensures.value) at c.in-Ok.ensures in
    rw are (boeing-inside c.args.kind.n c.args.kind.letters.symmetry c.in_ok-pointers.pointers.items c.in_ok-rows.rows.items within)

pub returns-clause-fails : goal.returns-clause-fails
returns-clause-fails g c =
    let first = c.in_ok-pointers.ensures.takes in
    let second = c.in_ok-rows.ensures.takes in
    for-machine _ _ _ (first.0 ++ second.0) _ _ (takes-append _ _ _ _ first.0 second.0 first.1 second.1) c.at_line.ensures tt
