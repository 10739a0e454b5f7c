use Rattle.std.proofs.Common.{arith, le_of_eq, le_trans, sym}
use Rattle.amd_lists.proofs.BucketCounts.{buckets_few}
use Rattle.amd.proofs.Parts.{pairs_fit, values_fit}
use Rattle.amd.proofs.lent.lists_in.Goals as goal

pub split_list-w-requires-clause-cut : goal.split_list-w-requires-clause-cut
split_list-w-requires-clause-cut g c =
    let r = c.requires.part.1 in (c.requires.part.0, omega (arith, r))

pub split_list-w-requires-clause-room : goal.split_list-w-requires-clause-room
split_list-w-requires-clause-room g c = (
  values_fit c.args.rows _ c.args.width c.args.part c.requires.cells c.requires.rows.1,
  c.requires.rows.0,
)

pub split_list-head-requires-clause-cut : goal.split_list-head-requires-clause-cut
split_list-head-requires-clause-cut g c =
    let r = c.requires.part.1 in let b = c.split_list-w.ensures.rest in
    (c.requires.part.0, omega (arith, r, b))

pub split_list-head-requires-clause-room : goal.split_list-head-requires-clause-room
split_list-head-requires-clause-room g c = (
  values_fit c.args.rows _ c.args.width c.args.part c.requires.cells c.requires.rows.1,
  c.requires.rows.0,
)

pub split_list-sides-requires-clause-cut : goal.split_list-sides-requires-clause-cut
split_list-sides-requires-clause-cut g c =
    let w = c.requires.part.0 in let r = c.requires.part.1 in let b = c.split_list-w.ensures.rest in
    let d = c.split_list-head.ensures.rest in (omega (arith, w), omega (arith, r, b, d))

pub split_list-sides-requires-clause-room : goal.split_list-sides-requires-clause-room
split_list-sides-requires-clause-room g c = (
  pairs_fit c.args.rows _ c.args.width c.args.part c.requires.sides c.requires.rows.1,
  c.requires.rows.0,
)

pub split_list-hash-requires-clause-cut : goal.split_list-hash-requires-clause-cut
split_list-hash-requires-clause-cut g c =
    let r = c.requires.part.1 in let b = c.split_list-w.ensures.rest in
    let d = c.split_list-head.ensures.rest in let e = c.split_list-sides.ensures.rest in
    (c.requires.part.0, omega (arith, r, b, d, e))

pub split_list-hash-requires-clause-room : goal.split_list-hash-requires-clause-room
split_list-hash-requires-clause-room g c = (
  values_fit c.args.rows _ c.args.width c.args.part c.requires.cells c.requires.rows.1,
  c.requires.rows.0,
)

pub returns-clause-room : goal.returns-clause-room
returns-clause-room g c = record {
  w = le_of_eq (sym c.split_list-w.ensures.list.1);
  head = le_of_eq (sym c.split_list-head.ensures.list.1);
  sides = le_of_eq (sym c.split_list-sides.ensures.list.1);
  hash = le_trans (buckets_few c.args.rows) (le_of_eq (sym c.split_list-hash.ensures.list.1));
}

pub returns-clause-rest : goal.returns-clause-rest
returns-clause-rest g c =
    let b = c.split_list-w.ensures.rest in let d = c.split_list-head.ensures.rest in
    let e = c.split_list-sides.ensures.rest in let f = c.split_list-hash.ensures.rest in omega (arith, b, d, e, f)
