-- There is one number of fields and one width, and neither is 0.
use Rattle.std.proofs.Common.{refl, sym, subst, arith}
use Rattle.amd_market.specs.Boeing.{SpellsRepeat, SpellsWidth}
use Rattle.amd_market.proofs.CardLemmas.{item-parts, item-same, no-item-letter}
use Rattle.amd_market.proofs.fields.item_of.Goals.{then-per_line-eq0-via-then-per_line-eq0}
use Rattle.amd_market.proofs.fields.item_of.Goals.{then-per_line-eq0-via-else-per_line-eq0+then-width-eq0}
use Rattle.amd_market.proofs.fields.item_of.Goals as goal

pub returns-in_err-front : goal.returns-in_err-front
returns-in_err-front c = rw c.from_residual.ensures
    (no-item-letter c.args.text.now c.in_err-front.ensures)

pub returns-in_err-per_line : goal.returns-in_err-per_line
returns-in_err-per_line c =
    let parts = c.in_ok-front.ensures in let split = parts.1.1 in
    rw c.from_residual-in_err-per_line.ensures (λ k w h.
    let same = item-parts c.args.text.now _ _ parts.0 split.0 parts.1.0 split.1 k w h in
    c.in_err-per_line.ensures k (subst (λ z. SpellsRepeat z k) (sym same.0) h.repeated))

pub returns-in_err-width : goal.returns-in_err-width
returns-in_err-width c =
    let parts = c.in_ok-front.ensures in let split = parts.1.1 in
    rw c.from_residual-in_err-width.ensures (λ k w h.
    let same = item-parts c.args.text.now _ _ parts.0 split.0 parts.1.0 split.1 k w h in
    c.in_err-width.ensures w (subst (λ z. SpellsWidth z w) (sym same.1) h.wide))

pub returns-then-per_line-eq0 : goal.returns-then-per_line-eq0
returns-then-per_line-eq0 c k w h =
    let parts = c.in_ok-front.ensures in let split = parts.1.1 in
    let same = item-parts c.args.text.now _ _ parts.0 split.0 parts.1.0 split.1 k w h in
    let is = item-same c.args.text.now _ _ _ _ k w c.in_ok-per_line.ensures c.in_ok-width.ensures h same in
    let one = is.0 in
    let two = is.1 in
    let some = h.some in
    let room = h.room in
    elim c.then-per_line-eq0.branch [
      | then-per_line-eq0-via-then-per_line-eq0 z ↦ let none = z.if-per_line-eq0.true in omega (arith, one, some, none)
      | then-per_line-eq0-via-else-per_line-eq0+then-width-eq0 z ↦ let none = z.if-width-eq0.true in omega (arith, two, room, none)
    ]

pub returns : goal.returns
returns c =
    let parts = c.in_ok-front.ensures in let split = parts.1.1 in
    let some = c.if-per_line-eq0.false in
    let room = c.if-width-eq0.false in (
      refl,
      record {
        front = c.in_ok-front.front.now;
        letter = parts.0;
        back = c.in_ok-front.back.now;
        parts = split.0;
        is_whole = parts.1.0;
        repeated = c.in_ok-per_line.ensures;
        wide = c.in_ok-width.ensures;
        some = omega (arith, some);
        room = omega (arith, room);
      },
    )
