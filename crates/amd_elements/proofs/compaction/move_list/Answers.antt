use Rattle.std.proofs.Common.{◌∙◌, ap, le_of_eq, sym, le_trans, subst, set}
use Rattle.amd_elements.specs.Compaction.{Moves}
use Rattle.std.proofs.Common.{rules, ℤ, w64, FitsSigned}
use Rattle.std.proofs.lemmas.Int.{to_z-of_z}
use Rattle.amd_elements.proofs.compaction.move_list.Goals as goal

pub word_at-requires : goal.word_at-requires
word_at-requires g c = c.requires.row

pub put_row-requires-clause-small : goal.put_row-requires-clause-small
put_row-requires-clause-small g c = c.requires.small

pub move_words-requires-clause-inside : goal.move_words-requires-clause-inside
move_words-requires-clause-inside g c = le_trans c.requires.inside (le_of_eq (sym c.put_word.auto.words))

pub move_words-requires-clause-down : goal.move_words-requires-clause-down
move_words-requires-clause-down g c = c.requires.down

pub put_row-requires-clause-inside : goal.put_row-requires-clause-inside
put_row-requires-clause-inside g c = c.requires.row

pub returns-clause-starts : goal.returns-clause-starts
returns-clause-starts g c = c.put_row.ensures

pub returns-clause-moves : goal.returns-clause-moves
returns-clause-moves g c = let z : ℤ = c.word_at.result in let f : FitsSigned w64 z = search rules in
    subst (λ ws. Moves ws c.move_words.new.iw c.args.from c.args.to c.args.count)
    (c.put_word.ensures ∙ ap (set c.args.iw.now c.args.from) (to_z-of_z w64 z f ∙ c.word_at.ensures.is)) c.move_words.ensures
