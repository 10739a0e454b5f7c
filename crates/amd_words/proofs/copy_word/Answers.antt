use Rattle.std.proofs.Common.{arith, length}
use borrow.Author.Rules.{scaled_Fits}
use Rattle.amd_words.proofs.copy_word.Goals as goal

pub offset_bounds-words-from : goal.offset_bounds-words-from
offset_bounds-words-from g c = scaled_Fits c.args.from (length c.args.words.now) _ c.requires.from (omega arith)

pub bounds-words-from : goal.bounds-words-from
bounds-words-from g c = c.requires.from

pub offset_bounds-words-to : goal.offset_bounds-words-to
offset_bounds-words-to g c = scaled_Fits c.args.to (length c.args.words.now) _ c.requires.to (omega arith)

pub bounds-words-to : goal.bounds-words-to
bounds-words-to g c = c.requires.to
