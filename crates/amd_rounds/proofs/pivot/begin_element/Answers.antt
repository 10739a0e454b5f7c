use Rattle.std.proofs.Common.{sym, ap, ◌∙◌}
use Rattle.std.proofs.Common.{pos}
use Rattle.amd_words.specs.Words.{word}
use Rattle.amd_words.proofs.Signs.{place_is}
use Rattle.amd_rounds.proofs.pivot.begin_element.Goals as goal

pub begin_in_place-requires-clause-count : goal.begin_in_place-requires-clause-count
begin_in_place-requires-clause-count g c =
    let e = c.named_lent-n_elements.ensures in
    ap (λ z. word z c.args.me) e.same ∙ place_is (word c.args.work.now.e_len.now c.args.me)
    (c.requires.laid.1.classes c.args.me c.requires.pivot.class).1 ∙ ap pos (sym e.is ∙ c.if-n_elements-eq0.true)
