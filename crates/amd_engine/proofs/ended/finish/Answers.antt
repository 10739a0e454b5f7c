use Rattle.std.proofs.Common.{map, pos, length}
use Rattle.amd_words.specs.Words.{num}
use Rattle.amd_engine.proofs.EndingLaw.{names_row, turned}
use Rattle.amd_engine.proofs.ended.finish.Goals as goal

pub write_numbers-requires-clause-fits : goal.write_numbers-requires-clause-fits
write_numbers-requires-clause-fits g c = λ k l. let head = c.args.head.now in let inverse = c.requires.inverse in
    c.requires.fits (num head k) (names_row (length head) head (map pos c.args.w.now) inverse k l)

pub write_numbers-requires-2-clause-fits : goal.write_numbers-requires-2-clause-fits
write_numbers-requires-2-clause-fits g c = λ k l. let head = c.args.head.now in let w = c.args.w.now in
    c.requires.fits (num w k)
    (names_row (length head) w (map pos head) (turned (length head) (map pos head) (map pos w) c.requires.inverse) k l)
