use Rattle.std.proofs.Common.{sym, lt_of_lt_of_le, le_of_eq, le_trans, add-le-add, le_of_lt, le_refl}
use Rattle.amd_merging.proofs.merging.merge.Goals as goal

pub add_inside-requires : goal.add_inside-requires
add_inside-requires g c = c.requires.add

pub put_flip-requires-clause-inside : goal.put_flip-requires-clause-inside
put_flip-requires-clause-inside g c = lt_of_lt_of_le c.requires.add.inside.0 (le_of_eq (sym c.requires.lengths.0))

pub put_flip-requires-clause-small : goal.put_flip-requires-clause-small
put_flip-requires-clause-small g c = le_trans (add-le-add (le_of_lt c.requires.add.inside.1) (le_refl 2)) c.requires.short

pub put_word-requires-clause-inside : goal.put_word-requires-clause-inside
put_word-requires-clause-inside g c = lt_of_lt_of_le c.requires.add.inside.0 (le_of_eq (sym c.requires.lengths.1))

pub returns-clause-links : goal.returns-clause-links
returns-clause-links g c = c.put_flip.ensures

pub returns-clause-adds : goal.returns-clause-adds
returns-clause-adds g c = c.add_inside.ensures
