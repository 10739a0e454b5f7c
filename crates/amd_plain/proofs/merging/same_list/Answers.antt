use Rattle.std.proofs.Common.{sym, ap, ◌∙◌}
use Rattle.std.proofs.lemmas.Bool.{ne_eqb}
use Rattle.amd_model.specs.Quotient.{each}
use Rattle.amd_round_laws.proofs.Lists.Same.{counted, uncounted}
use Rattle.amd_plain.proofs.merging.same_list.Goals as goal

pub returns-then-list-other : goal.returns-then-list-other
returns-then-list-other c =
    let xs = c.args.list.now in
    let ys = c.args.other.now in
    c.all_marked.ensures ∙ ap (λ p. each p xs) (λ k i. c.requires.marked i k) ∙
    counted ys xs c.requires.once.1 c.requires.once.0 c.if-list-other.true

pub returns-else-list-other : goal.returns-else-list-other
returns-else-list-other c =
    let xs = c.args.list.now in
    let ys = c.args.other.now in
    ne_eqb _ _ c.if-list-other.false ∙ sym (uncounted ys xs c.requires.once.1 c.requires.once.0 c.if-list-other.false)
