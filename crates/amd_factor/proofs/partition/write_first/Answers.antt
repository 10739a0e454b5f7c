use Rattle.std.proofs.Common.{◌≡◌, ◌-◌, arith, length, subst}
use Rattle.std.proofs.lemmas.List.{length-set}
use Rattle.amd_factor.specs.Partitions.{AreSame}
use Rattle.amd_factor.proofs.Partitions.Runs.{Begun, all-own, begun-next, first-in, runs-same}
use Rattle.amd_factor.proofs.partition.write_first.Goals as goal

pub overflow_add-first-in-places : goal.overflow_add-first-in-places
overflow_add-first-in-places c =
    let a = c.places.auto.first in let r = c.requires.room in let w = length-set c.args.first.now 0 0 in
    let i = first-in (AreSame c.args.owner.now) (length c.args.owner.now) c.args.owner.now (length c.args.first.now - 1) c.requires.numbered
    c.places.k c.places.first c.places.invariant.begun c.places-test.true (omega (arith, a, r, w)) in
    omega (arith, i, a, w)

pub offset_bounds-first-owner : goal.offset_bounds-first-owner
offset_bounds-first-owner c =
    let a = c.places.auto.first in let r = c.requires.room in let w = length-set c.args.first.now 0 0 in
    let i = first-in (AreSame c.args.owner.now) (length c.args.owner.now) c.args.owner.now (length c.args.first.now - 1) c.requires.numbered
    c.places.k c.places.first c.places.invariant.begun c.places-test.true (omega (arith, a, r, w)) in
    omega (arith, i, a, w)

pub bounds-first-owner : goal.bounds-first-owner
bounds-first-owner c =
    let a = c.places.auto.first in let r = c.requires.room in let w = length-set c.args.first.now 0 0 in
    first-in (AreSame c.args.owner.now) (length c.args.owner.now) c.args.owner.now (length c.args.first.now - 1) c.requires.numbered
    c.places.k c.places.first c.places.invariant.begun c.places-test.true (omega (arith, a, r, w))

pub places-preserved : goal.places-preserved
places-preserved c =
    let a = c.places.auto.first in let r = c.requires.room in let w = length-set c.args.first.now 0 0 in record {
      begun = begun-next (AreSame c.args.owner.now) (length c.args.owner.now) c.args.owner.now (length c.args.first.now - 1)
          c.requires.numbered c.places.k c.places.first c.places.invariant.begun c.places-test.true (omega (arith, a, r, w));
    }

pub returns-clause-runs : goal.returns-clause-runs
returns-clause-runs c =
    let a = c.places.auto.first in let r = c.requires.room in let w = length-set c.args.first.now 0 0 in let t = c.places-test.false in
    let e = c.places.auto.k-end in
    let all : c.places.k ≡ length c.args.owner.now = omega (arith, t, e) in
    runs-same (length c.args.owner.now) c.args.owner.now (length c.args.first.now - 1) c.requires.numbered c.places.first
    (omega (arith, a, r, w)) (subst (λ m. Begun c.args.owner.now m c.places.first) all c.places.invariant.begun)

pub returns-clause-own : goal.returns-clause-own
returns-clause-own c =
    let a = c.places.auto.first in let r = c.requires.room in let w = length-set c.args.first.now 0 0 in let t = c.places-test.false in
    let e = c.places.auto.k-end in
    let all : c.places.k ≡ length c.args.owner.now = omega (arith, t, e) in
    all-own (AreSame c.args.owner.now) (length c.args.owner.now) c.args.owner.now (length c.args.first.now - 1) c.requires.numbered
    c.places.first (omega (arith, a, r, w)) (subst (λ m. Begun c.args.owner.now m c.places.first) all c.places.invariant.begun)
