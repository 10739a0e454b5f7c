use Rattle.std.proofs.Common.{◌∙◌, ap, set}
use Rattle.amd_words.specs.Words.{word, flip_of}
use Rattle.std.proofs.Common.{rules, ℤ, w64, FitsSigned}
use Rattle.std.proofs.lemmas.Int.{to_z-of_z}
use Rattle.amd_elements.proofs.compaction.mark_row.Goals as goal

pub named-at-requires-clause-inside : goal.named-at-requires-clause-inside
named-at-requires-clause-inside g c = c.requires.row

pub named-at-requires-clause-is_one : goal.named-at-requires-clause-is_one
named-at-requires-clause-is_one g c = c.requires.is_one

pub put_word-requires-clause-inside : goal.put_word-requires-clause-inside
put_word-requires-clause-inside g c = c.requires.row

pub put_flip-requires-clause-small : goal.put_flip-requires-clause-small
put_flip-requires-clause-small g c = c.requires.small.0

pub returns-clause-words : goal.returns-clause-words
returns-clause-words g c = c.put_flip.ensures ∙ ap (λ k. set c.args.iw.now k (flip_of c.args.j)) c.named-at.ensures

pub returns-clause-starts : goal.returns-clause-starts
returns-clause-starts g c = let z : ℤ = c.word_at.result in let f : FitsSigned w64 z = search rules in c.put_word.ensures
    ∙ ap (set c.args.pe.now c.args.j) (to_z-of_z w64 z f ∙ c.word_at.ensures.is ∙ ap (word c.args.iw.now) c.named-at.ensures)
