use Rattle.std.proofs.Common.{arith, subst, sym, ℕ, List, length, pos, slice_index, ◌<◌}
use Rattle.std.specs.Prelude.{None, Option, slice_index_or}
use Rattle.std.proofs.lemmas.Int.{ints}
use Rattle.amd_calls.specs.Columns.{parent_number}
use Rattle.amd_calls.proofs.Fits.{parents-fit, sizes-fit}
use Rattle.amd_calls.proofs.counting.counts_into.Goals as goal

pub write_numbers-requires-clause-fits : goal.write_numbers-requires-clause-fits
write_numbers-requires-clause-fits g c =
    let fits = g.I.Index.fits in
    let room = (c.have_places.ensures.0 c.if-not-have_places.false).0 in
    let told = c.in_ok-counted.ensures.counts in let h = told.tells.holds in let places = told.permutes.each.places in
    subst (λ (xs : List ℕ). (k : ℕ) → k < length xs → fits (pos (slice_index xs k))) (sym c.deref.ensures.value)
    (sizes-fit fits g.met.I.Index.between g.met.I.Index.zero_fits _ _
    (g.I.Index.value c.args.matrix.n) c.requires.fits (omega (arith, ints, room, places)) h.columns h.factor _ h.sizes_are)

pub write_parents-requires-clause-fits : goal.write_parents-requires-clause-fits
write_parents-requires-clause-fits g c =
    let fits = g.I.Index.fits in
    let room = (c.have_places.ensures.0 c.if-not-have_places.false).0 in
    let told = c.in_ok-counted.ensures.counts in let h = told.tells.holds in let places = told.permutes.each.places in
    subst (λ (xs : List (Option ℕ)). (k : ℕ) → k < length xs → fits (parent_number (slice_index_or xs k None)))
    (sym c.deref-2.ensures.value)
    (parents-fit fits g.met.I.Index.between g.met.I.Index.zero_fits _ _
    (g.I.Index.value c.args.matrix.n) c.requires.fits (omega (arith, ints, room, places)) h.columns h.factor c.in-Some.ensures.0 _
    h.parents)
