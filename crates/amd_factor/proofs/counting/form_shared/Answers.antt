use Rattle.std.proofs.Common.{ℤ, ◌∙◌, List, ap, length, map, sym}
use Rattle.amd_types.specs.Naturals.{naturals}
use Rattle.amd_factor.proofs.Calls.ColumnParts.{laws, later_of}
use Rattle.amd_factor.proofs.counting.form_shared.Goals as goal

pub shared_counts-requires : goal.shared_counts-requires
shared_counts-requires g c κs within =
    let a_p : List ℤ = map g.I.Index.value c.args.a_p.now in
    let a_i : List ℤ = map g.I.Index.value c.args.a_i.now in
    let p : List ℤ = map g.I.Index.value c.args.p.now in
    let q = c.requires.1.1 in let places = (rw c.in-Some.is at c.in_ok-places.ensures.places) in (
      within,
      (
        laws c.args.size a_p a_i p g.o q.graph q.rows,
        (
          later_of c.args.size a_p a_i p g.o q.graph q.rows c.deref_mut.result.now c.deref-2.result.now
              (rw (c.deref_mut.ensures.value, c.deref-2.ensures.value)
              (c.in_ok-lists.ensures (naturals p) (rw c.deref.ensures.value places))),
          places.room ∙ sym (ap length q.rows ∙ places.listing.places),
        ),
      ),
    )
