use Rattle.std.proofs.Common.{◌&&◌, sym, ap, ◌∙◌}
use Rattle.std.specs.Prelude.{◌==◌}
use Rattle.std.proofs.lemmas.Bool.{eq-eqb, ne_eqb}
use Rattle.amd_words.specs.Words.{num, word, place}
use Rattle.amd_merging.proofs.merging.is_as_long.Goals as goal

pub returns-then-cell_at-count : goal.returns-then-cell_at-count
returns-then-cell_at-count g c = sym (ap (λ b. b && place (word c.args.e_len.now c.args.j) == c.args.few)
    (ne_eqb (num c.args.len.now c.args.j) c.args.count (λ e. c.if-cell_at-count.true (c.cell_at.ensures.is ∙ e))))

pub returns : goal.returns
returns g c =
    ap (λ k. k == c.args.few) c.named.ensures
    ∙ sym (ap (λ b. b && place (word c.args.e_len.now c.args.j) == c.args.few)
    (eq-eqb (num c.args.len.now c.args.j) c.args.count (sym c.cell_at.ensures.is ∙ c.if-cell_at-count.false)))
