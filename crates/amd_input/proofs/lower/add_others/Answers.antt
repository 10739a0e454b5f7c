-- the goals of lower::add_others.
use Rattle.std.proofs.Common.{◌≡◌, ◌<◌, ◌^◌, arith, ap, get_or, map, pos, subst, sym, ◌∙◌}
use Rattle.std.proofs.lemmas.Int.{ints}
use Rattle.std.proofs.lemmas.List.{length-map}
use Rattle.amd_model.specs.Input.Columns.{at, IsRow}
use Rattle.amd_model.proofs.Counting.Points.{zero_counted}
use Rattle.amd_types.specs.Naturals.{naturals, is_entry}
use Rattle.amd_edges.specs.Visits.{AreCounts}
use Rattle.amd_edges.proofs.Forms.{pointer_fits, pointer_is, pointer_within, same_diagonals, same_graph, sorted_form}
use Rattle.amd_input.specs.LowerRows.{CountRows, times}
use Rattle.amd_input.proofs.LowerRows.{degrees_dropped, degrees_plain, neighbours_room}
use Rattle.amd_input.proofs.lower.add_others.Goals as goal

pub count_at-entries-requires-clause-fits : goal.count_at-entries-requires-clause-fits
count_at-entries-requires-clause-fits g c = pointer_fits c.args.size (map g.I.Index.value c.args.a_p.now)
    (map g.I.Index.value c.args.a_i.now) c.requires.input.form c.args.size (omega arith)
    (subst (λ x. x < 2 ^ 64) (sym (length-map c.args.a_i.now g.I.Index.value)) (omega (arith, c.well_formed)))

pub add_rows-requires-clause-fits : goal.add_rows-requires-clause-fits
add_rows-requires-clause-fits g c = λ i l. (
    let n = c.args.size in let az = map g.I.Index.value c.args.a_p.now in let bz = map g.I.Index.value c.args.a_i.now in
    let form = sorted_form n az bz c.requires.input.form c.requires.input.sorted in
    let first : get_or (naturals az) 0 0 ≡ 0 = (let is = pointer_is n az bz c.requires.input.form 0 (omega arith) in
    let zero = c.requires.input.form.first in omega (arith, ints, is, zero)) in
    let long = c.requires.others.size in let row : i < n = omega (arith, l, long) in
    let room = neighbours_room n (naturals az) (naturals bz) form c.requires.low i row first in
    let own = c.requires.others.each i row in let end = ap (λ q. times (naturals bz) q i) c.count_at-entries.ensures.count in
    let fits = c.requires.fits in omega (arith, room, own, end, fits))

pub returns-then-diagonals-gt0 : goal.returns-then-diagonals-gt0
returns-then-diagonals-gt0 g c =
    let n = c.args.size in let az = map g.I.Index.value c.args.a_p.now in let bz = map g.I.Index.value c.args.a_i.now in
    let form = sorted_form n az bz c.requires.input.form c.requires.input.sorted in
    let first : get_or (naturals az) 0 0 ≡ 0 = (let is = pointer_is n az bz c.requires.input.form 0 (omega arith) in
    let zero = c.requires.input.form.first in omega (arith, ints, is, zero)) in
    let rows = subst (λ q. CountRows (naturals bz) q c.args.numbers.now c.add_rows.new.numbers) c.count_at-entries.ensures.count
    c.add_rows.ensures in
    subst (λ h. AreCounts h h.edge c.drop_diagonals.new.numbers) (sym (same_graph n az bz c.requires.input.form))
    (degrees_dropped n (naturals az) (naturals bz) form c.requires.low first c.args.numbers.now c.add_rows.new.numbers
    c.requires.others rows c.drop_diagonals.new.numbers c.drop_diagonals.ensures)

pub returns-else-diagonals-gt0 : goal.returns-else-diagonals-gt0
returns-else-diagonals-gt0 g c =
    let n = c.args.size in let az = map g.I.Index.value c.args.a_p.now in let bz = map g.I.Index.value c.args.a_i.now in
    let form = sorted_form n az bz c.requires.input.form c.requires.input.sorted in
    let first : get_or (naturals az) 0 0 ≡ 0 = (let is = pointer_is n az bz c.requires.input.form 0 (omega arith) in
    let zero = c.requires.input.form.first in omega (arith, ints, is, zero)) in
    let rows = subst (λ q. CountRows (naturals bz) q c.args.numbers.now c.add_rows.new.numbers) c.count_at-entries.ensures.count
    c.add_rows.ensures in
    let none = zero_counted n (λ j. is_entry n (naturals az) (naturals bz) j j)
    (let is = c.requires.diagonals in let low = c.if-diagonals-gt0.false in let same = same_diagonals n az bz c.requires.input.form in
    omega (arith, is, low, same)) in
    subst (λ h. AreCounts h h.edge c.add_rows.new.numbers) (sym (same_graph n az bz c.requires.input.form))
    (degrees_plain n (naturals az) (naturals bz) form c.requires.low first c.args.numbers.now c.add_rows.new.numbers
    c.requires.others rows none)

pub count_at-entries-requires-clause-within : goal.count_at-entries-requires-clause-within
count_at-entries-requires-clause-within g c =
    let enough = c.requires.input.form.enough in let long = length-map c.args.a_p.now g.I.Index.value in omega (arith, enough, long)

pub add_rows-requires-clause-within : goal.add_rows-requires-clause-within
add_rows-requires-clause-within g c =
    let within = pointer_within c.args.size (map g.I.Index.value c.args.a_p.now) (map g.I.Index.value c.args.a_i.now)
    c.requires.input.form c.args.size (omega arith) in
    let long = length-map c.args.a_i.now g.I.Index.value in let is = c.count_at-entries.ensures.count in omega (arith, within, long, is)

pub add_rows-requires-clause-rows : goal.add_rows-requires-clause-rows
add_rows-requires-clause-rows g c = λ q l.
    subst (λ m. IsRow (pos m) (at (map g.I.Index.value c.args.a_i.now) q)) (sym c.requires.others.size)
    (c.requires.input.form.rows q (let is = c.count_at-entries.ensures.value in omega (arith, ints, is, l)))

pub drop_diagonals-requires-clause-input : goal.drop_diagonals-requires-clause-input
drop_diagonals-requires-clause-input g c = c.requires.input

pub drop_diagonals-requires-clause-low : goal.drop_diagonals-requires-clause-low
drop_diagonals-requires-clause-low g c = c.requires.low

pub drop_diagonals-requires-clause-long : goal.drop_diagonals-requires-clause-long
drop_diagonals-requires-clause-long g c = c.add_rows.ensures.size ∙ c.requires.others.size
