use Rattle.std.proofs.Common.{◌+◌, ◌∙◌, sym, arith, length, rules}
use Rattle.std.specs.Prelude.{slice_index}
use Rattle.amd_factor.proofs.Factors.Fronts.{drop_further, front_written}
use Rattle.amd_factor.proofs.fill.fill_into.Goals as goal

pub add_column_into-requires : goal.add_column_into-requires
add_column_into-requires g c κs inside =
    let sizes = c.requires.1.0 in let can = c.requires.1.1 in
    let i = c.columns.invariant in let r = i.filled.filled.parents.room in let t = c.columns-test.true in (
      inside,
      (
        record {
          laws = can.laws;
          place = omega (arith, r, t);
          fit = can.most;
          later = can.later_are.each c.columns.k (omega (arith, r, t));
          long = c.columns.auto.fresh ∙ sizes.fresh;
        },
        i.filled,
      ),
    )

pub columns-preserved : goal.columns-preserved
columns-preserved g c =
    let i = c.columns.invariant in let e = c.in-Some.ensures in record {
      filled = e.filled;
      room = c.add_column_into.auto.rows ∙ i.room;
      rest = e.rest.1 ∙ drop_further (slice_index c.columns.lists.ptr.now c.columns.k)
          (slice_index c.add_column_into.new.lists.ptr.now (c.columns.k + 1)) c.columns.rows c.args.rows.now e.rest.0 i.rest;
      loans = search rules;
    }

pub returns : goal.returns
returns g c =
    let sizes = c.requires.1.0 in let can = c.requires.1.1 in
    let i = c.columns.invariant in
    let r = i.filled.filled.parents.room in let t = c.columns-test.false in
    let end = c.columns.auto.k-end in
    let from = sizes.parents in
    let lists = c.columns.lists in
    record {
      factor = rw (c.ptr-2-1.given.1.1 (sym i.loans.0), c.parent-2-1.given.1.1 (sym i.loans.1))
          (front_written g.N.Index.value g.o can.laws c.columns.k (length lists.parent.now) lists c.columns.rows c.columns.marked
          c.columns.mark i.filled (omega (arith, t, end, from)) (omega (arith, t, end, from, r)) c.args.rows.now i.rest);
    }
