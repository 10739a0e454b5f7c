use Rattle.std.proofs.Common.{◌≡◌, ◌+◌, ◌-◌, arith, subst}
use Rattle.amd_factor.proofs.Meetings.Ranking.{Ranking, rank-none, next-most, positive, rank-next, rank-all}
use Rattle.amd_factor.proofs.ranks.rank_places.Goals as goal

pub places-init : goal.places-init
places-init c = rank-none c.args.up.now c.args.size.now c.args.next.now c.args.rank.now c.requires.rises c.requires.measured c.requires.all
    c.requires.next c.requires.rank

pub overflow_sub-last : goal.overflow_sub-last
overflow_sub-last c =
    let e : c.places.k ≡ c.places.k - 1 + 1 = (let t = c.places-test.true in omega (arith, t)) in
    let i = subst (Ranking c.args.up.now c.args.size.now c.places.next c.places.rank) e c.places.invariant in
    let a = next-most c.args.up.now c.args.size.now c.places.next c.places.rank (c.places.k - 1) c.requires.rises c.requires.measured i in
    let b = positive c.args.up.now c.args.size.now c.places.next c.places.rank (c.places.k - 1) c.requires.rises c.requires.measured i in
    omega (arith, a, b)

pub overflow_sub-next : goal.overflow_sub-next
overflow_sub-next c =
    let e : c.places.k ≡ c.places.k - 1 + 1 = (let t = c.places-test.true in omega (arith, t)) in
    let i = subst (Ranking c.args.up.now c.args.size.now c.places.next c.places.rank) e c.places.invariant in
    next-most c.args.up.now c.args.size.now c.places.next c.places.rank (c.places.k - 1) c.requires.rises c.requires.measured i

pub places-preserved : goal.places-preserved
places-preserved c =
    let e : c.places.k ≡ c.places.k - 1 + 1 = (let t = c.places-test.true in omega (arith, t)) in
    let i = subst (Ranking c.args.up.now c.args.size.now c.places.next c.places.rank) e c.places.invariant in
    rank-next c.args.up.now c.args.size.now c.places.next c.places.rank (c.places.k - 1) c.requires.rises c.requires.measured i

pub returns : goal.returns
returns c = rank-all c.args.up.now c.args.size.now c.places.next c.places.rank c.places.k c.places.invariant
    (let t = c.places-test.false in omega (arith, t))
