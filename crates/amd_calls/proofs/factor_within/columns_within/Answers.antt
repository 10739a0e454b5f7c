use Rattle.std.proofs.Common.{ℤ, ◌≡◌, List, length, map, pos, refl, sym, ap, subst, ◌∙◌, arith, rules}
use Rattle.std.proofs.lemmas.Int.{ints}
use Rattle.std.proofs.lemmas.List.{length-map}
use Rattle.amd_edges.proofs.Forms.{pointer_fits}
use Rattle.amd_model.specs.Input.Columns.{IsColumnForm}
use Rattle.amd_types.proofs.Fitting.{fits_below}
use Rattle.amd_factor.specs.Factors.{IsFault, WritesFactor}
use Rattle.amd_calls.proofs.Fits.{parents-fit, pointers-fit}
use Rattle.amd_calls.proofs.WithinLeft.{no-columns, not-written, too-many}
use Rattle.amd_calls.proofs.factor_within.columns_within.Goals as goal

pub returns-then-size-eq0-clause-left : goal.returns-then-size-eq0-clause-left
returns-then-size-eq0-clause-left g c = no-columns (g.I.Index.value c.args.matrix.n) _ _ _ _ _ _ _
    (sym (ap pos c.if-size-eq0.true) ∙ c.in-Ok.ensures.size) (c.in-Ok.ensures.none c.if-size-eq0.true)
    (c.have_column_places.ensures.0 c.if-not-have_column_places.false) c.write_numbers.ensures

pub count_at-requires-clause-fits : goal.count_at-requires-clause-fits
count_at-requires-clause-fits g c = pointer_fits _ _ _ (c.in-Ok.ensures.form c.if-size-eq0.false) c.in-Ok.size (omega arith)
    (simp length-map (omega arith))

pub columns_inside-requires : goal.columns_inside-requires
columns_inside-requires g c κs within =
    let value = g.I.Index.value in
    let a_p : List ℤ = map value c.args.matrix.a_p.now in let a_i : List ℤ = map value c.args.matrix.a_i.now in
    let size = c.in-Ok.ensures.size in let front = c.split_at_mut-parents.ensures.front_len in (
      within,
      (
        record {
          form = subst (λ n. IsColumnForm (pos n) n a_p a_i) (sym front) (c.in-Ok.ensures.form c.if-size-eq0.false);
          graph = refl;
          rows = refl;
        },
        (
          (λ j l. fits_below g.I.Index.fits g.met.I.Index.zero_fits
              g.met.I.Index.between j (value c.args.matrix.n) c.requires.fits
              (omega (arith, ints, l, size, front))),
          (search rules, search rules),
        ),
      ),
    )

pub returns-in-Err-columns_inside-clause-left : goal.returns-in-Err-columns_inside-clause-left
returns-in-Err-columns_inside-clause-left g c =
    let value = g.I.Index.value in let matrix = c.args.matrix in
    let a_p : List ℤ = map value matrix.a_p.now in let a_i : List ℤ = map value matrix.a_i.now in
    let p : List ℤ = map value c.args.p.now in let e = c.in-Err-columns_inside.ensures in
    not-written c.args.most c.in-Ok.size (value c.args.matrix.n) a_p a_i p _ (map value c.args.rows.now) _ c.in-Ok.ensures.size
    (c.have_column_places.ensures.0 c.if-not-have_column_places.false) (length c.args.rows.now) (length-map c.args.rows.now value)
    (map value c.columns_inside.new.rows) c.in-Err-columns_inside.fault
    (subst (λ n. IsFault (pos n) a_p a_i p (length c.args.rows.now) c.in-Err-columns_inside.fault) c.split_at_mut-parents.ensures.front_len
    e.fault)
    e.reason (λ ne. ap (map value) (e.kept ne))

pub returns-then-total-most-clause-left : goal.returns-then-total-most-clause-left
returns-then-total-most-clause-left g c =
    let value = g.I.Index.value in let matrix = c.args.matrix in
    let a_p : List ℤ = map value matrix.a_p.now in let a_i : List ℤ = map value matrix.a_i.now in
    let p : List ℤ = map value c.args.p.now in
    let f = subst (λ n. (w : WritesFactor (pos n) a_p a_i p (map value c.args.rows.now) (map value c.columns_inside.new.rows)
    c.columns_inside.new.pointers c.columns_inside.new.parents) × (c.in-Ok-columns_inside.total ≡ length w.entries))
    c.split_at_mut-parents.ensures.front_len c.in-Ok-columns_inside.ensures.factor in
    let is = f.1 in
    too-many c.args.most c.in-Ok.size (value c.args.matrix.n) a_p a_i p _ (map value c.args.rows.now) _ c.in-Ok.ensures.size
    (c.have_column_places.ensures.0 c.if-not-have_column_places.false) (map value c.args.rows.now) (map value c.columns_inside.new.rows)
    c.columns_inside.new.pointers c.columns_inside.new.parents f.0 (omega (arith, is))

pub write_numbers-requires-2-clause-fits : goal.write_numbers-requires-2-clause-fits
write_numbers-requires-2-clause-fits g c =
    let f = c.in-Ok-columns_inside.ensures.factor in let is = f.1 in let h = f.0.factor.holds in
    pointers-fit h.columns c.columns_inside.new.pointers f.0.entries c.columns_inside.new.parents h.holds g.I.Index.fits
    g.met.I.Index.between g.met.I.Index.zero_fits c.args.most c.requires.most
    (omega (arith, is))

pub write_parents-requires-clause-fits : goal.write_parents-requires-clause-fits
write_parents-requires-clause-fits g c =
    let f = c.in-Ok-columns_inside.ensures.factor in let h = f.0.factor.holds in
    let size = c.in-Ok.ensures.size in let front = c.split_at_mut-parents.ensures.front_len in
    let places = f.0.factor.permutes.each.places in
    parents-fit g.I.Index.fits g.met.I.Index.between g.met.I.Index.zero_fits _ _
    (g.I.Index.value c.args.matrix.n) c.requires.fits (omega (arith, ints, size, front, places)) h.columns h.factor c.requires.signed
    c.columns_inside.new.parents h.holds.parents
