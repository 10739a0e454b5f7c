-- The parts were read one after another; an error of a part names its line behind those of the parts before.
use Rattle.std.proofs.Common.{[], ◌∷◌, ◌++◌, refl}
use Rattle.amd_lines.proofs.LineLemmas.{takes-append}
use Rattle.amd_market.specs.Faults.{HasLayoutFault}
use Rattle.amd_market.specs.Stops.{CardStops, in_counts, in_kind, in_layout, in_extra}
use Rattle.amd_market.proofs.FaultLemmas.{all-first, all-more, for-behind, for-weaker, handed-on}
use Rattle.amd_market.proofs.boeing.take_head.Goals as goal

pub returns-in_err-sides-clause-fails : goal.returns-in_err-sides-clause-fails
returns-in_err-sides-clause-fails g c = handed-on _ c.from_residual.result c.from_residual.ensures.1
    (for-weaker _ _ _ (λ s h. in_counts h) c.in_err-sides.ensures.fails)

pub returns-in_err-kind-clause-fails : goal.returns-in_err-kind-clause-fails
returns-in_err-kind-clause-fails g c =
    let first = rw c.in-Some.is at c.in_ok-sides.ensures.takes in
    handed-on _ c.from_residual-in_err-kind.result c.from_residual-in_err-kind.ensures.1
    (for-behind _ _ _ (first.0 ∷ []) _ first.1 (λ s h. in_kind first.0 _ first.2 (all-first (first.0 ∷ []) s h))
    c.in_err-kind.ensures.fails)

pub returns-in_err-layout-clause-fails : goal.returns-in_err-layout-clause-fails
returns-in_err-layout-clause-fails g c =
    let first = rw c.in-Some.is at c.in_ok-sides.ensures.takes in
    let second = c.in_ok-kind.ensures.takes in
    handed-on _ c.from_residual-in_err-layout.result c.from_residual-in_err-layout.ensures.1
    (for-behind _ _ _ (first.0 ∷ []) _ first.1
    (λ s h. in_layout first.0 second.0 _ c.in_ok-kind.kind first.2 second.2 (all-more (first.0 ∷ []) (second.0 ∷ []) s h))
    (for-behind {Q = CardStops HasLayoutFault (second.0 ∷ [])} _ _ _ (second.0 ∷ []) _ second.1 (λ s h. all-first (second.0 ∷ []) s h)
    c.in_err-layout.ensures.fails))

pub returns-in_err-take_extra-clause-fails : goal.returns-in_err-take_extra-clause-fails
returns-in_err-take_extra-clause-fails g c =
    let first = rw c.in-Some.is at c.in_ok-sides.ensures.takes in
    let second = c.in_ok-kind.ensures.takes in
    let third = c.in_ok-layout.ensures.takes in
    let before = (first.0 ∷ []) ++ ((second.0 ∷ []) ++ (third.0 ∷ [])) in
    handed-on _ c.from_residual-in_err-take_extra.result c.from_residual-in_err-take_extra.ensures.1
    (for-behind _ _ _ before _ (takes-append _ _ _ _ (first.0 ∷ []) _ first.1
    (takes-append _ _ _ _ (second.0 ∷ []) (third.0 ∷ []) second.1 third.1))
    (λ s h. in_extra first.0 second.0 third.0 _ c.in_ok-kind.kind c.in_ok-layout.layout first.2 second.2 third.2 h.0
    (all-first before s h.1))
    c.in_err-take_extra.ensures.fails)

pub returns-clause-takes : goal.returns-clause-takes
returns-clause-takes g c =
    let first = rw c.in-Some.is at c.in_ok-sides.ensures.takes in
    let second = c.in_ok-kind.ensures.takes in
    let third = c.in_ok-layout.ensures.takes in
    let fourth = c.in_ok-take_extra.ensures.takes in (
      (first.0 ∷ []) ++ ((second.0 ∷ []) ++ ((third.0 ∷ []) ++ fourth.0)),
      takes-append _ _ _ _ (first.0 ∷ []) _ first.1 (takes-append _ _ _ _ (second.0 ∷ []) _ second.1
          (takes-append _ _ _ _ (third.0 ∷ []) fourth.0 third.1 fourth.1)),
      record {
        counts = first.0;
        third = second.0;
        fourth = third.0;
        more = fourth.0;
        parts = refl;
        sides = c.in-Some.sides;
        has_counts = first.2;
        has_kind = second.2;
        has_layout = third.2;
        has_more = fourth.2;
      },
    )
