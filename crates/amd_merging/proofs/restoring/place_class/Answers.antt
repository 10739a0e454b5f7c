use Rattle.std.proofs.Common.{rules}
use Rattle.std.proofs.Common.{ap, sym, ◌∙◌, ◌+◌, ◌-◌, le_of_eq, lt_of_lt_of_le}
use Rattle.std.specs.Prelude.{min}
use Rattle.amd_words.specs.Words.{num}
use Rattle.amd_merging.proofs.restoring.place_class.Goals as goal

pub leave-size-requires-clause-inside : goal.leave-size-requires-clause-inside
leave-size-requires-clause-inside g c = lt_of_lt_of_le c.requires.row (le_of_eq (sym c.requires.lengths.0))

pub leave-size-requires-clause-marked : goal.leave-size-requires-clause-marked
leave-size-requires-clause-marked g c = c.requires.marked

pub empty_bucket-requires-clause-class : goal.empty_bucket-requires-clause-class
empty_bucket-requires-clause-class g c = (c.requires.row, c.requires.class.key)

pub empty_bucket-requires-clause-long : goal.empty_bucket-requires-clause-long
empty_bucket-requires-clause-long g c = c.requires.lengths.3

pub empty_bucket-requires-clause-short : goal.empty_bucket-requires-clause-short
empty_bucket-requires-clause-short g c = c.requires.short.2

pub cell_at-requires : goal.cell_at-requires
cell_at-requires g c = lt_of_lt_of_le c.requires.row (le_of_eq (sym c.requires.lengths.1))

pub put_head-requires : goal.put_head-requires
put_head-requires g c = record {
  lengths = (let l = c.requires.lengths in (l.2, l.1));
  short = (c.requires.short.2);
  row = search rules;
}

pub returns : goal.returns
returns g c = record {
  lengths = search rules;
  sizes = (c.leave-size.ensures.sizes);
  marks = (c.leave-size.ensures.front);
  bound_is = (let size = c.leave-size.result in
      c.new_bound-bound.ensures
      ∙ ap (λ m. min (m + (c.args.front.now.border - size)) (c.args.front.now.left - size)) c.cell_at.ensures.is
      ∙ ap (λ s. min (num c.args.degree.now c.args.i + (c.args.front.now.border - s)) (c.args.front.now.left - s))
      c.leave-size.ensures.rows);
  degrees = (c.put_head.ensures.degrees);
  emptied = (c.empty_bucket.ensures);
  others = (c.put_head.ensures.others);
  linked = (c.put_head.ensures.linked);
}
