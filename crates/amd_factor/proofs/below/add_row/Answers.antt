use Rattle.std.proofs.Common.{◌+◌, inl, inr, ap, subst, sym, arith, length, map, set}
use Rattle.std.specs.Prelude.{slice_index}
use Rattle.std.proofs.lemmas.Bool.{cases_eq}
use Rattle.amd_types.specs.Naturals.{naturals}
use Rattle.amd_factor.specs.Partitions.{Climbs, IsMarkedBy}
use Rattle.amd_factor.proofs.Partitions.RowClimbs.{climbs-begin, climbs-end, climbs-from}
use Rattle.amd_factor.proofs.Partitions.SupernodeTree.{begins}
use Rattle.amd_factor.proofs.Meetings.ThinRows.{thin-neighbour}
use Rattle.amd_factor.proofs.below.add_row.Goals as goal

pub earlier-init : goal.earlier-init
earlier-init g c =
    let can = c.requires.1 in
    let rows = naturals (map g.I.Index.value c.args.rows.now) in record {
      climbs = subst (λ xs. Climbs g.b c.args.j (slice_index g.b.owner c.args.j) c.args.next.now
          (set c.args.mark.now (slice_index xs c.args.j) (c.args.j + 1)) rows) (sym can.owners)
          (climbs-begin g.b c.args.j c.args.next.now rows can.row.place c.args.mark.now can.written can.marks);
      told = can.told;
      marked = λ s l. absurd (omega (arith, l));
    }

pub offset_bounds-cut-i : goal.offset_bounds-cut-i
offset_bounds-cut-i g c =
    let can = c.requires.1 in
    let e = (thin-neighbour g.b.order c.args.j c.args.earlier.now c.earlier.i-index can.thinned c.earlier-test.true).0 in
    let j = can.row.place in let o = ap length can.owners in omega (arith, e, j, o)

pub bounds-cut-i : goal.bounds-cut-i
bounds-cut-i g c =
    let can = c.requires.1 in
    let e = (thin-neighbour g.b.order c.args.j c.args.earlier.now c.earlier.i-index can.thinned c.earlier-test.true).0 in
    let j = can.row.place in let o = ap length can.owners in omega (arith, e, j, o)

pub climb-requires : goal.climb-requires
climb-requires g c κs within =
    let can = c.requires.1 in
    let i = c.earlier.invariant.climbs in
    let rows = naturals (map g.I.Index.value c.earlier.rows) in
    let e = thin-neighbour g.b.order c.args.j c.args.earlier.now c.earlier.i-index can.thinned c.earlier-test.true in
    let place = slice_index c.args.earlier.now c.earlier.i-index in (
      within,
      record {
        row = can.row;
        climbs = subst (λ xs. Climbs g.b c.args.j (slice_index xs place) c.earlier.next c.earlier.mark rows) (sym can.owners)
            (climbs-from g.b c.args.j (slice_index g.b.owner place) c.earlier.next c.earlier.mark rows i
            (begins g.b i.cut.columns i.cut.partition can.row.laws place c.args.j e.0 can.row.place e.1));
        told = c.earlier.invariant.told;
      },
    )

pub earlier-preserved : goal.earlier-preserved
earlier-preserved g c =
    record {
      climbs = c.climb.ensures.climbs;
      told = c.climb.ensures.told;
      marked = λ s l. elim (cases_eq s c.earlier.i-index) [
        | inl q ↦ subst (λ x. IsMarkedBy c.climb.new.mark c.args.j (slice_index g.b.owner (slice_index c.args.earlier.now x))) (sym q)
            (subst (λ xs. IsMarkedBy c.climb.new.mark c.args.j (slice_index xs (slice_index c.args.earlier.now c.earlier.i-index)))
            c.requires.1.owners c.climb.ensures.marked)
        | inr ne ↦ c.climb.ensures.kept (slice_index g.b.owner (slice_index c.args.earlier.now s))
            (c.earlier.invariant.marked s (omega (arith, l, ne)))
      ];
    }

pub returns-clause-written : goal.returns-clause-written
returns-clause-written g c =
    let can = c.requires.1 in
    let t = c.earlier-test.false in
    climbs-end g.b c.args.j c.earlier.next (naturals (map g.I.Index.value c.earlier.rows)) can.row.place can.row.laws
    c.earlier.mark c.earlier.invariant.climbs
    c.args.earlier.now can.thinned (λ s l. c.earlier.invariant.marked s (omega (arith, l, t)))
