-- A format of groups has one front, and one group.
use Rattle.std.proofs.Common.{◌<◌, ◌^◌, sym, subst, arith}
use Rattle.amd_market.specs.Boeing.{SpellsRepeat, SpellsGroup}
use Rattle.amd_market.proofs.CardLemmas.{groups-parts, groups-count, no-groups-bracket}
use Rattle.amd_market.proofs.fields.groups_of.Goals as goal

pub returns-in_err-front : goal.returns-in_err-front
returns-in_err-front c = rw c.from_residual-in_err-front.ensures
    (no-groups-bracket c.args.word.now _ c.in_ok-bracketed.ensures c.in_err-front.ensures)

pub returns-in_err-groups : goal.returns-in_err-groups
returns-in_err-groups c =
    let parts = c.in_ok-front.ensures in
    rw c.from_residual-in_err-groups.ensures (λ k w h.
    let same = groups-parts c.args.word.now _ _ _ c.in_ok-bracketed.ensures parts.0 parts.1 parts.2 k w h in
    c.in_err-groups.ensures h.groups (subst (λ z. SpellsRepeat z h.groups) (sym same.0) h.has_groups))

pub returns-in_err-group : goal.returns-in_err-group
returns-in_err-group c =
    let parts = c.in_ok-front.ensures in
    rw c.from_residual-in_err-group.ensures (λ k w h.
    let same = groups-parts c.args.word.now _ _ _ c.in_ok-bracketed.ensures parts.0 parts.1 parts.2 k w h in
    c.in_err-group.ensures h.each w (subst (λ z. SpellsGroup z h.each w) (sym same.1) h.group))

pub returns-in_err-per_line : goal.returns-in_err-per_line
returns-in_err-per_line c =
    let parts = c.in_ok-front.ensures in
    rw c.from_residual-in_err-per_line.ensures (λ k w h.
    let same = groups-parts c.args.word.now _ _ _ c.in_ok-bracketed.ensures parts.0 parts.1 parts.2 k w h in
    let is = groups-count c.args.word.now _ _ _ _ _ k w c.in_ok-groups.ensures c.in_ok-group.ensures.1 h same in
    c.in_err-per_line.ensures (subst (λ z. z < 2 ^ 64) is h.fits))

pub returns-then-per_line-eq0 : goal.returns-then-per_line-eq0
returns-then-per_line-eq0 c k w h =
    let parts = c.in_ok-front.ensures in
    let same = groups-parts c.args.word.now _ _ _ c.in_ok-bracketed.ensures parts.0 parts.1 parts.2 k w h in
    let is = groups-count c.args.word.now _ _ _ _ _ k w c.in_ok-groups.ensures c.in_ok-group.ensures.1 h same in
    let product = c.in_ok-per_line.ensures in
    let none = c.if-per_line-eq0.true in
    let some = h.some in
    omega (arith, is, product, none, some)
