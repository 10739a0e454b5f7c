use Rattle.std.proofs.Common.{◌∙◌, ap, sym}
use Rattle.amd_words.specs.Words.{word, place}
use Rattle.amd_words.proofs.Signs.{place_is, abs_is, place_of}
use Rattle.amd_words.proofs.words.named.Goals as goal

pub row_at-requires-clause-plain : goal.row_at-requires-clause-plain
row_at-requires-clause-plain g c = let z = word c.args.words.now c.args.k in place_is z c.requires.is_one
    ∙ sym (ap lib.IntN.pos (abs_is z c.requires.is_one))

pub returns : goal.returns
returns g c = sym (ap place c.row_at.ensures ∙ place_of c.row_at.result)
