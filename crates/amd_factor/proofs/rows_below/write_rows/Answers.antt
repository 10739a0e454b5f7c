use Rattle.std.proofs.Common.{subst, refl}
use Rattle.std.specs.Prelude.{unsigned_abs}
use Rattle.amd_model.proofs.Patterns.DegreeSums.{pattern_graph}
use Rattle.amd_types.specs.Naturals.{naturals}
use Rattle.amd_factor.proofs.rows_below.write_rows.Goals as goal

pub fill_rows-requires : goal.fill_rows-requires
fill_rows-requires g c κs within =
    let can = c.requires.1.1 in (
      within,
      record {
        cut = record {
          laws = pattern_graph (unsigned_abs g.m.size) g.m.pointers g.m.indices;
          cut = rw (c.deref-3.ensures.value, c.deref-4.ensures.value, c.deref-5.ensures.value, c.deref-6.ensures.value) can.parts.cut;
          firsts = refl;
          owners = refl;
          pointers = refl;
          parents = refl;
        };
        thinned = rw (c.deref.ensures.value, c.deref-2.ensures.value) can.parts.near;
        nexts = rw (c.deref_mut.ensures.value, c.deref-3.ensures.value) can.nexts;
        marks = rw (c.deref_mut-2.ensures.value, c.deref-3.ensures.value) can.marks;
        all = rw (c.deref-3.ensures.value, c.deref-5.ensures.value) can.all;
        most = rw c.deref-4.ensures.value (subst g.I.Index.fits can.parts.size can.most);
      },
    )

pub returns-clause-supernodes : goal.returns-clause-supernodes
returns-clause-supernodes g c =
    let p = c.requires.1.1.parts in
    record {
      form = p.form;
      order = naturals g.m.list;
      permutes = p.permutes;
      holds = rw (c.deref-3.ensures.value, c.deref-5.ensures.value, c.deref-6.ensures.value) at c.fill_rows.ensures.rows;
    }
