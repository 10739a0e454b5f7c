use Rattle.std.proofs.Common.{pos, ap, subst, length, map}
use Rattle.amd_types.specs.Naturals.{naturals}
use Rattle.amd_types.proofs.Fitting.{fits_below}
use Rattle.amd_factor.specs.Partitions.{WrittenTo}
use Rattle.amd_factor.proofs.Partitions.SupernodeRows.{hold-supernodes}
use Rattle.amd_factor.proofs.Partitions.SupernodeTree.{places}
use Rattle.amd_factor.proofs.Partitions.TypedRows.{in-range, pos-below}
use Rattle.amd_factor.proofs.Factors.Fronts.{at_end}
use Rattle.amd_factor.proofs.below.fill_rows.Goals as goal

pub unreachable-requires : goal.unreachable-requires
unreachable-requires g c =
    let can = c.requires.1 in
    let below = in-range c.rows.j (length c.args.cut.now.owner.now) (length g.b.owner) c.rows-test.true
    (ap length can.cut.owners) in
    c.in_default.ensures (fits_below g.I.Index.fits g.met.I.Index.zero_fits g.met.I.Index.between c.rows.j (pos (length g.b.owner))
    can.most (pos-below c.rows.j (length g.b.owner) below))

pub add_row-requires : goal.add_row-requires
add_row-requires g c κs within =
    let can = c.requires.1 in
    let t = c.rows-test.true in
    let o = ap length can.cut.owners in let p = places g.b can.cut.cut.columns can.cut.cut.partition in
    let here = in-range c.rows.j (length c.args.cut.now.owner.now) (length g.b.owner) t o in (
      within,
      record {
        row = record { laws = can.cut.laws; place = here; is = c.in-Some.ensures.1; parents = can.cut.parents };
        thinned = can.thinned.each c.rows.j (in-range c.rows.j (length g.b.owner) (length g.b.order.rows) here p);
        owners = can.cut.owners;
        written = c.rows.invariant.written;
        marks = c.rows.invariant.marks;
        told = c.rows.invariant.told;
      },
    )

pub returns-clause-rows : goal.returns-clause-rows
returns-clause-rows g c =
    let can = c.requires.1 in
    let all = at_end c.rows.j (length c.args.cut.now.owner.now) (length g.b.owner) c.rows-test.false c.rows.auto.j-end
    (ap length can.cut.owners) in
    hold-supernodes g.b can.cut.laws c.rows.next (naturals (map g.I.Index.value c.rows.rows))
    (subst (λ m. WrittenTo g.b m c.rows.next (naturals (map g.I.Index.value c.rows.rows))) all c.rows.invariant.written)

pub rows-preserved : goal.rows-preserved
rows-preserved g c = record {
  written = c.add_row.ensures.written;
  told = c.add_row.ensures.told;
  marks = c.add_row.ensures.marks;
}

pub returns-clause-told : goal.returns-clause-told
returns-clause-told g c = c.rows.invariant.told
