-- The format is parted at its first comma.
use Rattle.std.proofs.Common.{sym, subst}
use Rattle.amd_market.specs.Boeing.{SpellsItem, SpellsSkip}
use Rattle.amd_market.proofs.CardLemmas.{no-skipped-comma, skipped-parts}
use Rattle.amd_market.proofs.fields.skipped_of.Goals as goal

pub returns-in_err-front : goal.returns-in_err-front
returns-in_err-front c = rw c.from_residual-in_err-front.ensures
    (no-skipped-comma c.args.word.now _ c.in_ok-bracketed.ensures c.in_err-front.ensures)

pub returns-in_err-skipped : goal.returns-in_err-skipped
returns-in_err-skipped c =
    let parts = c.in_ok-front.ensures in
    rw c.from_residual-in_err-skipped.ensures (λ s k w h.
    let same = skipped-parts c.args.word.now _ _ _ c.in_ok-bracketed.ensures parts.0 parts.1 s k w h in
    c.in_err-skipped.ensures s (subst (λ z. SpellsSkip z s) (sym same.0) h.skip))

pub returns-in_err-item : goal.returns-in_err-item
returns-in_err-item c =
    let parts = c.in_ok-front.ensures in
    rw c.from_residual-in_err-item.ensures (λ s k w h.
    let same = skipped-parts c.args.word.now _ _ _ c.in_ok-bracketed.ensures parts.0 parts.1 s k w h in
    c.in_err-item.ensures k w (subst (λ z. SpellsItem z k w) (sym same.1) h.item))
