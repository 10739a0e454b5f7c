use Rattle.std.proofs.Common.{ℤ, List, map}
use Rattle.amd_factor.proofs.Calls.ColumnParts.{laws, earlier_of}
use Rattle.amd_factor.proofs.counting.form_counts.Goals as goal

pub ordered_lists-requires : goal.ordered_lists-requires
ordered_lists-requires g c = record { form = c.requires.1.1.form }

pub written_counts-requires : goal.written_counts-requires
written_counts-requires g c κs within =
    let posed = c.requires.1.1 in
    let a_p : List ℤ = map g.I.Index.value c.args.a_p.now in
    let a_i : List ℤ = map g.I.Index.value c.args.a_i.now in
    let p : List ℤ = map g.I.Index.value c.args.p.now in (
      within,
      (
        laws c.args.size a_p a_i p g.o posed.graph posed.rows,
        earlier_of c.args.size a_p a_i p g.o posed.graph posed.rows c.deref_mut.result.now c.deref_mut-2.result.now
            (rw (c.deref_mut.ensures.value, c.deref_mut-2.ensures.value) c.in_ok-lists.ensures.lists),
      ),
    )
