use Rattle.std.proofs.Common.{◌-◌, ◌+◌, ◌∙◌, arith, ap, refl, sym, le_of_eq, lt_of_lt_of_le}
use Rattle.std.specs.Prelude.{◌==◌}
use Rattle.std.proofs.lemmas.Bool.{and_parts, eqb-true}
use Rattle.amd_words.specs.Words.{num, word, place}
use Rattle.amd_words.proofs.RowLists.{names_at}
use Rattle.amd_merging.proofs.merging.is_like.Goals as goal

pub is_as_long-requires-clause-inside : goal.is_as_long-requires-clause-inside
is_as_long-requires-clause-inside g c = (
  lt_of_lt_of_le c.requires.renewed.row (le_of_eq (sym c.requires.lengths.1)),
  lt_of_lt_of_le c.requires.renewed.row (le_of_eq (sym c.requires.lengths.2)),
)

pub is_as_long-requires-clause-counts : goal.is_as_long-requires-clause-counts
is_as_long-requires-clause-counts g c = c.requires.renewed.counts

pub named-from-requires-clause-inside : goal.named-from-requires-clause-inside
named-from-requires-clause-inside g c = lt_of_lt_of_le c.requires.renewed.row (le_of_eq (sym c.requires.lengths.0))

pub named-from-requires-clause-is_one : goal.named-from-requires-clause-is_one
named-from-requires-clause-is_one g c = c.requires.renewed.starts

-- the words behind the first one of a class are those of its list
pub all_marked-requires : goal.all_marked-requires
all_marked-requires g c =
    let lists = c.args.lists.now in let j = c.args.j in let h = c.requires.renewed in
    let tests = and_parts (num lists.len.now j == c.args.count) (place (word lists.e_len.now j) == c.args.few)
    (sym c.is_as_long.ensures ∙ c.if-not-is_as_long.false) in
    let count_is = eqb-true (num lists.len.now j) c.args.count tests.0 in record {
      inside = (let f = c.named-from.ensures in let a = h.some in let b = h.parts in let w = h.within in
          omega (arith, f, count_is, a, b, w));
      names = names_at lists.iw.now refl (ap (λ s. s + 1) (sym c.named-from.ensures)) (ap (λ m. m - 1) count_is) h.names;
    }
