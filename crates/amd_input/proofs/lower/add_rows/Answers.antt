-- the goals of lower::add_rows.
use Rattle.std.proofs.Common.{◌≡◌, ◌+◌, ◌<◌, arith, length, map, subst, sym}
use Rattle.std.proofs.lemmas.Int.{ints}
use borrow.Author.Count.{falls}
use Rattle.amd_types.specs.Naturals.{naturals}
use Rattle.amd_input.specs.LowerRows.{CountRows}
use Rattle.amd_input.proofs.LowerRows.{rows_next, rows_none, rows_room}
use Rattle.amd_input.proofs.lower.add_rows.Goals as goal

pub places-init : goal.places-init
places-init g c = rows_none (naturals (map g.I.Index.value c.args.a_i.now)) c.args.numbers.now

pub overflow_add-number : goal.overflow_add-number
overflow_add-number g c =
    let row = c.count_at-row.result in let is = c.count_at-row.ensures.value in
    let row_in : row < length c.args.numbers.now =
    (let high = (c.requires.rows c.places.q c.places-test.true).1 in omega (arith, ints, high, is)) in
    let room = rows_room (naturals (map g.I.Index.value c.args.a_i.now)) c.places.q c.args.entries row c.cell_at-number.result
    g.U.Unsigned.MOST c.args.numbers.now c.places.numbers c.places-test.true row_in c.count_at-row.ensures.count
    c.cell_at-number.ensures.is c.places.invariant (c.requires.fits row row_in) in
    let narrow = g.met.U.Unsigned.narrow in omega (arith, room, narrow)

pub put_cell-requires-clause-fits : goal.put_cell-requires-clause-fits
put_cell-requires-clause-fits g c =
    let row = c.count_at-row.result in let is = c.count_at-row.ensures.value in
    let row_in : row < length c.args.numbers.now =
    (let high = (c.requires.rows c.places.q c.places-test.true).1 in omega (arith, ints, high, is)) in
    rows_room (naturals (map g.I.Index.value c.args.a_i.now)) c.places.q c.args.entries row c.cell_at-number.result
    g.U.Unsigned.MOST c.args.numbers.now c.places.numbers c.places-test.true row_in c.count_at-row.ensures.count
    c.cell_at-number.ensures.is c.places.invariant (c.requires.fits row row_in)

pub places-preserved : goal.places-preserved
places-preserved g c =
    let row = c.count_at-row.result in let is = c.count_at-row.ensures.value in let ai = naturals (map g.I.Index.value c.args.a_i.now) in
    let row_in : row < length c.args.numbers.now =
    (let high = (c.requires.rows c.places.q c.places-test.true).1 in omega (arith, ints, high, is)) in
    subst (CountRows ai (c.places.q + 1) c.args.numbers.now) (sym c.put_cell.ensures)
    (rows_next ai c.places.q row c.cell_at-number.result c.args.numbers.now c.places.numbers row_in c.count_at-row.ensures.count
    c.cell_at-number.ensures.is c.places.invariant)

pub count_at-row-requires-clause-within : goal.count_at-row-requires-clause-within
count_at-row-requires-clause-within g c = let most = c.requires.within in let more = c.places-test.true in omega (arith, most, more)

pub cell_at-number-requires : goal.cell_at-number-requires
cell_at-number-requires g c =
    let is = c.count_at-row.ensures.value in let high = (c.requires.rows c.places.q c.places-test.true).1 in
    let long = c.places.auto.numbers in omega (arith, ints, high, is, long)

pub put_cell-requires-clause-inside : goal.put_cell-requires-clause-inside
put_cell-requires-clause-inside g c =
    let is = c.count_at-row.ensures.value in let high = (c.requires.rows c.places.q c.places-test.true).1 in
    let long = c.places.auto.numbers in omega (arith, ints, high, is, long)

pub places-smaller : goal.places-smaller
places-smaller g c = falls c.args.entries c.places.q c.places-test.true

pub returns : goal.returns
returns g c =
    let end : c.places.q ≡ c.args.entries = (let x = c.places-test.false in let y = c.places.auto.q-end in omega (arith, x, y)) in
    subst (λ q. CountRows (naturals (map g.I.Index.value c.args.a_i.now)) q c.args.numbers.now c.places.numbers) end c.places.invariant
