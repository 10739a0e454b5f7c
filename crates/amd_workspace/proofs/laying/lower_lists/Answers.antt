-- the goals of laying::lower_lists.
use Rattle.std.proofs.Common.{◌+◌, ◌≤◌, arith}
use Rattle.amd_workspace.proofs.laying.lower_lists.Goals.{then-free-size, else-free-size}
use Rattle.amd_workspace.proofs.laying.lower_lists.Goals as goal

pub are_short-requires : goal.are_short-requires
are_short-requires g c = record { form = c.requires.ready.input.form }

pub entry_lists-requires : goal.entry_lists-requires
entry_lists-requires g c =
    let r = c.requires.ready in let free = c.requires.free in let enough = r.enough in
    let low : c.args.free + c.args.size ≤ c.if-free-size.fill = elim c.if-free-size.branch [
      | then-free-size w ↦ (let is = w.fill-is in omega (arith, is, free, enough))
      | else-free-size w ↦ (let is = w.fill-is in omega (arith, is))
    ] in
    let high : c.if-free-size.fill ≤ c.args.room = elim c.if-free-size.branch [
      | then-free-size w ↦ (let is = w.fill-is in omega (arith, is))
      | else-free-size w ↦ (let is = w.fill-is in omega (arith, is, free, enough))
    ] in
    let cells = r.places in let wide = r.fits in record {
      ready = record {
        input = r.input;
        some = r.some;
        enough = omega (arith, free, low);
        rows = r.rows;
        places = omega (arith, high, cells);
        fits = omega (arith, high, wide);
        empty = r.empty;
        long = r.long;
        starts = r.starts;
      };
    }

pub returns-then-are_short-clause-long : goal.returns-then-are_short-clause-long
returns-then-are_short-clause-long g c =
    let is = c.entry_lists.ensures.long in let free = c.requires.free in let enough = c.requires.ready.enough in
    elim c.if-free-size.branch [
      | then-free-size w ↦ (let e = w.fill-is in (omega (arith, is, e, free, enough), omega (arith, is, e)))
      | else-free-size w ↦ (let e = w.fill-is in (omega (arith, is, e), omega (arith, is, e, free, enough)))
    ]

pub returns-then-are_short-clause-capacity : goal.returns-then-are_short-clause-capacity
returns-then-are_short-clause-capacity g c = c.entry_lists.ensures.capacity

pub returns-then-are_short-clause-lists : goal.returns-then-are_short-clause-lists
returns-then-are_short-clause-lists g c = c.entry_lists.ensures.lists c.args.degrees.now c.requires.degrees

pub row_lists-requires-clause-ready : goal.row_lists-requires-clause-ready
row_lists-requires-clause-ready g c = c.requires.ready

pub row_lists-requires-clause-degrees : goal.row_lists-requires-clause-degrees
row_lists-requires-clause-degrees g c = c.requires.degrees

pub row_lists-requires-clause-heads : goal.row_lists-requires-clause-heads
row_lists-requires-clause-heads g c = c.requires.heads

pub returns-clause-long : goal.returns-clause-long
returns-clause-long g c =
    let is = c.row_lists.ensures.long in let free = c.requires.free in let enough = c.requires.ready.enough in
    (omega (arith, is, free), omega (arith, is, enough))

pub returns-clause-capacity : goal.returns-clause-capacity
returns-clause-capacity g c = c.row_lists.ensures.capacity

pub returns-clause-heads : goal.returns-clause-heads
returns-clause-heads g c = c.row_lists.ensures.heads

pub returns-clause-lists : goal.returns-clause-lists
returns-clause-lists g c = c.row_lists.ensures.lists
