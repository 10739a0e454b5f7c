use Rattle.std.proofs.Common.{◌+◌, sym, subst, arith, set, ap}
use Rattle.std.specs.Prelude.{slice_index}
use Rattle.amd_factor.proofs.Meetings.Onto.{Placed, placed-next, placed-all, rank-inside}
use Rattle.amd_factor.proofs.sweep.place_by_rank.Goals as goal

pub places-init : goal.places-init
places-init g c = let room = c.requires.1.1 in record { room = room; each = λ x l. absurd (omega (arith, l)) }

pub offset_bounds-order-rank : goal.offset_bounds-order-rank
offset_bounds-order-rank g c =
    let scene = c.requires.0 in let ranks = c.requires.1.0 in
    let room = c.requires.1.1 in let t = c.places-test.true in
    let a = rank-inside g.s scene c.places.k (omega (arith, room, t)) in
    let b = ap (λ v. slice_index v c.places.k) ranks in omega (arith, a, b, room)

pub bounds-order-rank : goal.bounds-order-rank
bounds-order-rank g c =
    let scene = c.requires.0 in let ranks = c.requires.1.0 in
    let room = c.requires.1.1 in let t = c.places-test.true in let same = c.places.auto.order in
    let a = rank-inside g.s scene c.places.k (omega (arith, room, t)) in
    let b = ap (λ v. slice_index v c.places.k) ranks in omega (arith, a, b, room, same)

pub places-preserved : goal.places-preserved
places-preserved g c =
    let scene = c.requires.0 in let ranks = c.requires.1.0 in
    let room = c.requires.1.1 in let t = c.places-test.true in
    subst (λ v. Placed g.s (c.places.k + 1) (set c.places.order (slice_index v c.places.k) c.places.k)) (sym ranks)
    (placed-next g.s scene c.places.k c.places.order (omega (arith, room, t)) c.places.invariant)

pub returns : goal.returns
returns g c =
    let scene = c.requires.0 in
    placed-all g.s scene c.places.k c.places.order (let room = c.requires.1.1 in let t = c.places-test.false in
    omega (arith, room, t)) c.places.invariant
