use Rattle.std.proofs.Common.{◌≡◌, ◌-◌, arith, length, subst}
use Rattle.amd_factor.specs.Partitions.{AreNumbered, AreSame}
use Rattle.amd_factor.proofs.Partitions.Cutting.{first-at, have-parents, is-cut}
use Rattle.amd_factor.proofs.Partitions.Runs.{same-numbered}
use Rattle.amd_factor.proofs.partition.write_cut.Goals as goal

pub write_first-requires-clause-numbered : goal.write_first-requires-clause-numbered
write_first-requires-clause-numbered g c =
    let h = c.requires.numbered in let r = c.requires.firsts in
    subst (AreNumbered (AreSame c.args.owner.now) (length c.args.owner.now) c.args.owner.now)
    (let e : length c.args.over.now ≡ length c.args.first.now - 1 = omega (arith, r) in e) (same-numbered _ _ _ _ h)

pub write_parents-requires-clause-inside : goal.write_parents-requires-clause-inside
write_parents-requires-clause-inside g c =
    let k = c.requires.counts in
    let p = (have-parents g.o k.columns k.factor c.args.sizes.now c.args.parent.now k.sizes_are k.parents).room in
    λ s l. let r = first-at g.o k.columns k.factor c.args.sizes.now c.args.parent.now k.sizes_are k.parents c.args.owner.now
    c.write_first.new.first (length c.args.over.now) c.requires.numbered c.write_first.ensures.runs c.write_first.ensures.own s l in let b =
    r.1 in (r.0, omega (arith, b, p))

pub write_parents-requires-clause-parents : goal.write_parents-requires-clause-parents
write_parents-requires-clause-parents g c =
    let k = c.requires.counts in let n = c.requires.numbered.room in
    let p = have-parents g.o k.columns k.factor c.args.sizes.now c.args.parent.now k.sizes_are k.parents in let r = p.room in
    λ i q l e. let b = (p.each i q (omega (arith, l, r)) e).1 in omega (arith, b, n)

pub write_pointers-requires-clause-inside : goal.write_pointers-requires-clause-inside
write_pointers-requires-clause-inside g c =
    let k = c.requires.counts in first-at g.o k.columns k.factor c.args.sizes.now c.args.parent.now k.sizes_are k.parents c.args.owner.now
    c.write_first.new.first (length c.args.over.now) c.requires.numbered c.write_first.ensures.runs c.write_first.ensures.own

pub returns : goal.returns
returns g c =
    let k = c.requires.counts in
    λ e. is-cut g.o k.columns k.factor c.args.sizes.now c.args.parent.now k.sizes_are k.parents c.args.owner.now
    c.write_first.new.first (length c.args.over.now) c.requires.numbered c.write_first.ensures.runs c.write_first.ensures.own
    c.write_pointers.new.ptr c.write_parents.new.over
    (c.write_pointers.ensures e) c.write_parents.ensures
