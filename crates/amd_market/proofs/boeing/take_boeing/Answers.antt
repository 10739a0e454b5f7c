-- The parts were read one after another; an error of a part names its line behind those of the parts before.
use Rattle.std.proofs.Common.{◌++◌, refl}
use Rattle.amd_lines.proofs.LineLemmas.{takes-append}
use Rattle.amd_market.specs.Stops.{in_cards, in_columns}
use Rattle.amd_market.proofs.FaultLemmas.{for-behind, for-machine, for-weaker, handed-on}
use Rattle.amd_market.proofs.StopLemmas.{columns-behind}
use Rattle.amd_market.proofs.boeing.take_boeing.Goals as goal

pub returns-in_err-kind-clause-fails : goal.returns-in_err-kind-clause-fails
returns-in_err-kind-clause-fails g c = handed-on _ c.from_residual.result c.from_residual.ensures.1
    (for-weaker _ _ _ (λ s h. in_cards h) c.in_err-kind.ensures.fails)

pub returns-in_err-pairs-clause-fails : goal.returns-in_err-pairs-clause-fails
returns-in_err-pairs-clause-fails g c =
    let first = rw c.in-Some.is at c.in_ok-kind.ensures.takes in
    handed-on _ c.from_residual-in_err-pairs.result c.from_residual-in_err-pairs.ensures.1
    (for-behind _ _ _ first.0 _ first.1 (λ s h. in_columns first.0 c.in-Some.kind c.in-Some.layout first.2 (columns-behind _ _ first.0 s h))
    c.in_err-pairs.ensures.fails)

pub returns-in-Err-clause-fails : goal.returns-in-Err-clause-fails
returns-in-Err-clause-fails g c =
    let first = rw c.in-Some.is at c.in_ok-kind.ensures.takes in
    let second = c.in_ok-pairs.ensures.takes in
    for-machine _ _ _ (first.0 ++ second.0) _ _ (takes-append _ _ _ _ first.0 second.0 first.1 second.1) c.at_line.ensures tt

pub returns-in-Ok-clause-takes : goal.returns-in-Ok-clause-takes
returns-in-Ok-clause-takes g c =
    let first = rw c.in-Some.is at c.in_ok-kind.ensures.takes in
    let second = c.in_ok-pairs.ensures.takes in (
      first.0 ++ second.0,
      takes-append _ _ _ _ first.0 second.0 first.1 second.1,
      record {
        head = first.0;
        columns = second.0;
        parts = refl;
        kind = c.in-Some.kind;
        layout = c.in-Some.layout;
        has_head = first.2;
        told = c.in-Ok.ensures.source;
        pairs = c.in_ok-pairs.pairs.items;
        has_columns = second.2;
        size = c.in-Ok.ensures.size;
        matrix = (rw c.in-Ok.ensures.size c.in-Ok.ensures.holds);
      },
    )
