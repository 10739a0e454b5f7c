use Rattle.std.proofs.Common.{arith, rules}
use Rattle.amd_factor.proofs.Meetings.Ranking.{ones-at, measure-none, measure-fits, measure-next, measure-all, measure-top}
use Rattle.amd_factor.proofs.ranks.measure.Goals as goal

pub places-init : goal.places-init
places-init c = measure-none c.args.up.now c.fill.new.self (search rules)
    (ones-at c.fill.new.self _ (c.fill.ensures.after (λ y e. e)))

pub overflow_add-size : goal.overflow_add-size
overflow_add-size c =
    let f = measure-fits c.args.up.now c.places.size c.places.k c.requires.rises c.places.invariant c.places-test.true in
    let r = c.requires.room in omega (arith, f, r)

pub places-preserved : goal.places-preserved
places-preserved c = measure-next c.args.up.now c.places.size c.places.k c.requires.rises c.places.invariant c.places-test.true

pub returns-clause-measured : goal.returns-clause-measured
returns-clause-measured c = measure-all c.args.up.now c.places.size c.places.k c.places.invariant
    (let a = c.places-test.false in let b = c.places.auto.k-end in omega (arith, a, b))

pub returns-clause-all : goal.returns-clause-all
returns-clause-all c = measure-top c.args.up.now c.places.size c.places.k c.places.invariant
    (let a = c.places-test.false in let b = c.places.auto.k-end in omega (arith, a, b))
