use Rattle.std.proofs.Common.{pos, sym, ap, ◌∙◌, arith}
use Rattle.std.proofs.lemmas.Int.{ints}
use Rattle.std.proofs.lemmas.List.{length-map}
use Rattle.amd_edges.proofs.Forms.{pointer_fits}
use Rattle.amd_calls.proofs.Fits.{parents-fit, sizes-fit}
use Rattle.amd_calls.proofs.WithinLeft.{no-counts}
use Rattle.amd_calls.proofs.factor_within.counts_within.Goals as goal

pub returns-then-size-eq0-clause-left : goal.returns-then-size-eq0-clause-left
returns-then-size-eq0-clause-left g c = no-counts (g.I.Index.value c.args.matrix.n) _ _ _ _ _ c.need_of_sizes.result
    c.saturated_need.result
    (sym (ap pos c.if-size-eq0.true) ∙ c.in-Ok.ensures.size) (c.in-Ok.ensures.none c.if-size-eq0.true)
    (c.have_places.ensures.0 c.if-not-have_places.false) c.need_of_sizes.ensures c.saturated_need.ensures

pub count_at-requires-clause-fits : goal.count_at-requires-clause-fits
count_at-requires-clause-fits g c = pointer_fits _ _ _ (c.in-Ok.ensures.form c.if-size-eq0.false) c.in-Ok.size (omega arith)
    (simp length-map (omega arith))

pub write_numbers-requires-clause-room : goal.write_numbers-requires-clause-room
write_numbers-requires-clause-room g c =
    let places = c.have_places.ensures.0 c.if-not-have_places.false in let has = places.0 in
    let size = c.in-Ok.ensures.size in let wide = length-map c.args.sizes.now g.I.Index.value in
    let front = c.split_at_mut-counts.ensures.front_len in let kept = c.counts_inside.auto.counts in
    omega (arith, ints, has, size, wide, front, kept)

pub write_numbers-requires-clause-fits : goal.write_numbers-requires-clause-fits
write_numbers-requires-clause-fits g c =
    let size = c.in-Ok.ensures.size in
    let front = c.split_at_mut-counts.ensures.front_len in
    let told = c.in-Some-counts_inside.ensures.counts in let h = told.1.holds in let places = told.0.each.places in
    sizes-fit g.I.Index.fits g.met.I.Index.between g.met.I.Index.zero_fits _ _
    (g.I.Index.value c.args.matrix.n) c.requires.fits (omega (arith, ints, size, front, places)) h.columns h.factor
    c.counts_inside.new.counts h.sizes_are

pub write_parents-requires-clause-fits : goal.write_parents-requires-clause-fits
write_parents-requires-clause-fits g c =
    let size = c.in-Ok.ensures.size in
    let front = c.split_at_mut-counts.ensures.front_len in
    let told = c.in-Some-counts_inside.ensures.counts in let h = told.1.holds in let places = told.0.each.places in
    parents-fit g.I.Index.fits g.met.I.Index.between g.met.I.Index.zero_fits _ _
    (g.I.Index.value c.args.matrix.n) c.requires.fits (omega (arith, ints, size, front, places)) h.columns h.factor c.requires.signed
    c.counts_inside.new.parent h.parents
