use Rattle.std.proofs.Common.{◌∙◌, ap, sym}
use Rattle.amd_words.specs.Words.{word, rows_in}
use Rattle.amd_words.proofs.Signs.{fresh_is, rows_of}
use Rattle.amd_words.proofs.words.size_outside.Goals as goal

pub row_at-requires-clause-plain : goal.row_at-requires-clause-plain
row_at-requires-clause-plain g c = let e = fresh_is (word c.args.nv.now c.args.j) c.requires.fresh in e
    ∙ sym (ap lib.IntN.pos (ap lib.IntN.nat_abs e))

pub returns : goal.returns
returns g c = sym (ap rows_in c.row_at.ensures ∙ rows_of c.row_at.result)
