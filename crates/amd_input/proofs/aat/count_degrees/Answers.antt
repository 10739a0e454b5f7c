-- the goals of aat::count_degrees.
use Rattle.std.proofs.Common.{◌∙◌, arith, ap, get_or, length, map}
use Rattle.std.specs.Vec.{vec_capacity}
use Rattle.amd_model.specs.Input.Pattern.{graph_of}
use Rattle.amd_input.proofs.Counting.{zeros_of, counts_none}
use Rattle.amd_input.proofs.aat.count_degrees.Goals as goal
use Rattle.amd_input.proofs.aat.count_degrees.Goals.{in-Some, in-None}

pub walk-diagonals-requires-clause-held : goal.walk-diagonals-requires-clause-held
unfolding graph_of
walk-diagonals-requires-clause-held g c =
    let none = zeros_of c.args.size c.zeros.new.cells.items c.zeros.ensures.zeros in (
      counts_none (graph_of c.args.size (map g.I.Index.value c.args.a_p.now) (map g.I.Index.value c.args.a_i.now))
          c.zeros.new.cells.items none.0 none.1,
      c.requires.fits.0,
    )

pub degrees_by_columns-requires-clause-input : goal.degrees_by_columns-requires-clause-input
degrees_by_columns-requires-clause-input g c = c.requires.input

pub degrees_by_columns-requires-clause-fits : goal.degrees_by_columns-requires-clause-fits
degrees_by_columns-requires-clause-fits g c = c.requires.fits

pub degrees_by_columns-requires-clause-next : goal.degrees_by_columns-requires-clause-next
degrees_by_columns-requires-clause-next g c = record {
  empty = ap length c.clear.ensures.items;
  room = (let same = c.clear.ensures.capacity ∙ ap vec_capacity c.replace-ends.ensures.value in let room = c.requires.room.0 in
      omega (arith, same, room));
}

pub degrees_by_columns-requires-clause-degrees : goal.degrees_by_columns-requires-clause-degrees
degrees_by_columns-requires-clause-degrees g c = record {
  empty = ap length c.clear-2.ensures.items;
  room = (let same = c.clear-2.ensures.capacity ∙ ap vec_capacity c.replace.ensures.value in let room = c.requires.room.1 in
      omega (arith, same, room));
}

pub zeros-requires : goal.zeros-requires
zeros-requires g c =
    let same = c.in-None.ensures.room.1 ∙ c.clear-2.ensures.capacity ∙ ap vec_capacity c.replace.ensures.value in
    let room = c.requires.room.1 in omega (arith, same, room)

pub walk-diagonals-requires-clause-form : goal.walk-diagonals-requires-clause-form
walk-diagonals-requires-clause-form g c = c.requires.input.form

pub walk-diagonals-requires-clause-sorted : goal.walk-diagonals-requires-clause-sorted
walk-diagonals-requires-clause-sorted g c = c.requires.input.sorted

pub walk-diagonals-requires-clause-fits : goal.walk-diagonals-requires-clause-fits
walk-diagonals-requires-clause-fits g c = c.requires.fits.1

pub walk-diagonals-requires-clause-empty : goal.walk-diagonals-requires-clause-empty
walk-diagonals-requires-clause-empty g c = ap length c.clear-in-None.ensures.items

pub walk-diagonals-requires-clause-room : goal.walk-diagonals-requires-clause-room
walk-diagonals-requires-clause-room g c =
    let same = c.clear-in-None.ensures.capacity ∙ c.in-None.ensures.room.0 ∙ c.clear.ensures.capacity
    ∙ ap vec_capacity c.replace-ends.ensures.value in
    let room = c.requires.room.0 in omega (arith, same, room)

pub returns-clause-counted : goal.returns-clause-counted
returns-clause-counted g c = elim c.match-degrees_by_columns.branch [
  | in-Some w ↦ rw (w.own-is, w.diagonals-is) w.in-Some.ensures.counted
  | in-None w ↦ rw (w.own-is, w.diagonals-is) (record {
    degrees = w.walk-diagonals.ensures.held.0;
    diagonals = w.walk-diagonals.ensures.diagonals;
  })
]

pub returns-clause-room : goal.returns-clause-room
returns-clause-room g c =
    let next = c.clear.ensures.capacity ∙ ap vec_capacity c.replace-ends.ensures.value in
    let own = c.clear-2.ensures.capacity ∙ ap vec_capacity c.replace.ensures.value in
    elim c.match-degrees_by_columns.branch [
      | in-Some w ↦ rw (w.ends-is, w.own-is) (w.in-Some.ensures.room.0 ∙ next, w.in-Some.ensures.room.1 ∙ own)
      | in-None w ↦ rw (w.ends-is, w.own-is) (
        w.walk-diagonals.ensures.room ∙ w.clear-in-None.ensures.capacity ∙ w.in-None.ensures.room.0 ∙ next,
        ap (λ l. get_or l 0 0) w.walk-diagonals.ensures.kept ∙ w.zeros.ensures.room ∙ w.in-None.ensures.room.1 ∙ own,
      )
    ]
