use Rattle.std.proofs.Common.{◌<◌, arith, length, set, take}
use Rattle.std.proofs.lemmas.List.{length-set, length-take-le}
use Rattle.amd_factor.specs.Gathering.{Marks}
use Rattle.amd_factor.proofs.Factors.NewRows.{marks_more, room_for_one, listed_more}
use Rattle.amd_factor.proofs.gathering.list_row.Goals as goal

pub bounds-fresh-listed : goal.bounds-fresh-listed
bounds-fresh-listed g c =
    let entry = c.requires.0 in
    let are = c.requires.1 in
    let m = room_for_one g.c c.args.stamp (take c.args.listed c.args.fresh.now) c.args.mark.now are.marks c.args.row entry
    c.if-mark-row.false in
    let l = length-take-le c.args.listed c.args.fresh.now are.within in
    let s = are.room in omega (arith, m, l, s)

pub returns-clause-count : goal.returns-clause-count
returns-clause-count g c =
    let entry = c.requires.0 in
    let are = c.requires.1 in
    let m = room_for_one g.c c.args.stamp (take c.args.listed c.args.fresh.now) c.args.mark.now are.marks c.args.row entry
    c.if-mark-row.false in
    let l = length-take-le c.args.listed c.args.fresh.now are.within in
    let n = length-set c.args.fresh.now c.args.listed c.args.row in
    let s = are.room in omega (arith, m, l, s, n)

pub returns-clause-marks : goal.returns-clause-marks
returns-clause-marks g c =
    let entry = c.requires.0 in
    let are = c.requires.1 in
    let m = room_for_one g.c c.args.stamp (take c.args.listed c.args.fresh.now) c.args.mark.now are.marks c.args.row entry
    c.if-mark-row.false in
    let l = length-take-le c.args.listed c.args.fresh.now are.within in
    let s = are.room in
    let inside : c.args.listed < length c.args.fresh.now = omega (arith, m, l, s) in
    listed_more c.args.fresh.now c.args.listed c.args.row inside
    (λ xs. Marks g.c c.args.stamp xs (set c.args.mark.now c.args.row c.args.stamp))
    (marks_more g.c c.args.stamp (take c.args.listed c.args.fresh.now) c.args.mark.now are.marks c.args.row entry
    c.if-mark-row.false)
