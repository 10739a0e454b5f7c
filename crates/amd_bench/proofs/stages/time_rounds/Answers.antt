use Rattle.std.proofs.Common.{arith, length, ap, sym, ◌≡◌, ◌<◌, ◌∙◌}
use Rattle.std.proofs.lemmas.Int.{ints}
use Rattle.std.proofs.lemmas.List.{length-replicate}
use Rattle.amd_types.proofs.Fitting.{fits_below}
use Rattle.amd_engine.proofs.LentLists.{lent_empty}
use Rattle.amd_bench.proofs.stages.time_rounds.Given.{Over}
use Rattle.amd_bench.proofs.stages.time_rounds.Goals.{After-run_growing-told}
use Rattle.amd_bench.proofs.stages.time_rounds.Goals as goal

pub fill_lists-requires-clause-room : goal.fill_lists-requires-clause-room
fill_lists-requires-clause-room g c = let room = c.requires.room.beside in (room.next, room.lists)

pub run_growing-told-requires-clause-can : goal.run_growing-told-requires-clause-can
run_growing-told-requires-clause-can g c =
    let r = c.requires in let starts = c.deref_mut.ensures.value in let counts = c.deref_mut-2.ensures.value in
    let size = ap length counts ∙ r.size.1 in let words = r.words.0 in record {
      empty = lent_empty _ c.fill_lists.ensures.fresh size
          (ap length (c.deref_mut-3.ensures.value ∙ c.fill_words-2.ensures.items) ∙ length-replicate c.args.size _)
          (ap length (c.deref_mut-4.ensures.value ∙ c.fill_words.ensures.items) ∙ length-replicate c.args.size _)
          c.deref_mut-5.ensures.value c.deref_mut-6.ensures.value c.deref_mut-7.ensures.value c.deref_mut-8.ensures.value
          c.deref_mut-9.ensures.value;
      laid = rw (starts, counts, r.size.1) r.laid;
      room = omega (arith, size, words);
      graph = (r.graph.0, r.graph.1, rw (starts, counts) r.graph.2);
    }

pub run_growing-told-requires-clause-narrow : goal.run_growing-told-requires-clause-narrow
run_growing-told-requires-clause-narrow g c = rw (c.deref_mut-2.ensures.value, c.requires.size.1) c.requires.narrow

pub run_growing-told-requires-clause-room : goal.run_growing-told-requires-clause-room
run_growing-told-requires-clause-room g c = (c.requires.words.1, c.requires.room.beside.words)

-- there is a place for each row
long : (g : Over) (c : After-run_growing-told g) → length c.run_growing-told.new.rows.pe.now ≡ c.args.size
long g c = c.run_growing-told.ensures.over.words.0 ∙ ap length c.deref_mut-2.ensures.value ∙ c.requires.size.1

pub list_order-requires-clause-over : goal.list_order-requires-clause-over
list_order-requires-clause-over g c = let over = c.run_growing-told.ensures.over in rw over.words.0 over

pub list_order-requires-clause-room : goal.list_order-requires-clause-room
list_order-requires-clause-room g c = let rows = long g (goal.at.list_order-requires-clause-room g c).After-run_growing-told in (
  ap length c.deref_mut-10.ensures.value ∙ c.in_ok-p.ensures ∙ sym rows,
  ap length c.deref_mut-11.ensures.value ∙ c.in_ok-p_inv.ensures ∙ sym rows,
)

pub list_order-requires-clause-narrow : goal.list_order-requires-clause-narrow
list_order-requires-clause-narrow g c = let n = c.requires.narrow in
    rw (long g (goal.at.list_order-requires-clause-narrow g c).After-run_growing-told) (omega arith, omega arith, n.2, n.3, n.4)

pub list_order-requires-clause-fits : goal.list_order-requires-clause-fits
list_order-requires-clause-fits g c = λ k l.
    let rows = long g (goal.at.list_order-requires-clause-fits g c).After-run_growing-told in
    let small : k < c.args.size = omega (arith, l, rows) in
    let size = c.requires.size.0 in
    fits_below g.I.Index.fits g.met.I.Index.zero_fits g.met.I.Index.between k (g.I.Index.value c.args.n) c.requires.fits
    (omega (arith, ints, small, size))
