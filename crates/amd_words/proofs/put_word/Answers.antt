use Rattle.std.proofs.Common.{arith, length}
use borrow.Author.Rules.{scaled_Fits}
use Rattle.amd_words.proofs.put_word.Goals as goal

pub offset_bounds-words-k : goal.offset_bounds-words-k
offset_bounds-words-k g c = scaled_Fits c.args.k (length c.args.words.now) _ c.requires.inside (omega arith)

pub bounds-words-k : goal.bounds-words-k
bounds-words-k g c = c.requires.inside
