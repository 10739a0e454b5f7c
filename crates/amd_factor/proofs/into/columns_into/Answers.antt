use Rattle.std.proofs.Common.{ℕ, ◌<◌, ℤ, List, pos, ◌≡◌, [], ◌∷◌, map, length, refl, sym, ap, subst, ◌∙◌, arith}
use Rattle.std.specs.Prelude.{IfOk, IfErr, ◌≤ℤ◌}
use Rattle.std.proofs.lemmas.Int.{ints}
use Rattle.amd_factor.specs.Factors.{IsFault, WritesFactor}
use Rattle.amd_factor.proofs.Calls.Faults.{memory_of, all_of}
use Rattle.amd_factor.proofs.Calls.ColumnParts.{no_rows}
use Rattle.amd_factor.proofs.Calls.UnfitFaults.{columns_fault}
use Rattle.amd_factor.proofs.into.columns_into.Goals as goal

pub returns-in-Err-clause-fault : goal.returns-in-Err-clause-fault
returns-in-Err-clause-fault g c =
    columns_fault (g.I.Number.value c.args.n) _ _ _ (length c.args.rows.now)
    c.in-Err.unfit c.fault_for.result c.fault_for.ensures c.in-Err.ensures.unfit

pub returns-then-size-eq0-clause-factor : goal.returns-then-size-eq0-clause-factor
returns-then-size-eq0-clause-factor g c =
    let a_p : List ℤ = map g.I.Number.value c.args.a_p.now in
    let a_i : List ℤ = map g.I.Number.value c.args.a_i.now in
    let p : List ℤ = map g.I.Number.value c.args.p.now in
    let rows : List ℤ = map g.I.Number.value c.args.rows.now in
    let zero : pos 0 ≡ g.I.Number.value c.args.n = sym (ap pos c.if-size-eq0.true) ∙ c.in-Ok.ensures.size in
    let empty : p ≡ [] = c.in-Ok.ensures.none c.if-size-eq0.true in
    subst (λ z. IfOk c.empty_frame.result (λ f. WritesFactor z a_p a_i p rows rows f.ptr.items f.parent.items)) zero
    (all_of c.empty_frame.result (λ f. f.ptr.items ≡ 0 ∷ []) (λ f. f.parent.items ≡ []) (λ f. f.parent.items ≡ [])
    (λ f. WritesFactor (pos 0) a_p a_i p rows rows f.ptr.items f.parent.items) c.empty_frame.ensures.pointers
    c.empty_frame.ensures.parents c.empty_frame.ensures.parents
    (λ f pointers parents _. record {
      entries = [];
      factor = no_rows a_p a_i p f.ptr.items [] f.parent.items empty pointers refl parents;
      written = refl;
    }))

pub returns-then-size-eq0-clause-fault : goal.returns-then-size-eq0-clause-fault
returns-then-size-eq0-clause-fault g c =
    let zero : g.I.Number.value c.args.n ≡ pos 0 = sym c.in-Ok.ensures.size ∙ ap pos c.if-size-eq0.true in
    memory_of c.empty_frame.result (IsFault (g.I.Number.value c.args.n) (map g.I.Number.value c.args.a_p.now)
    (map g.I.Number.value c.args.a_i.now) (map g.I.Number.value c.args.p.now) (length c.args.rows.now))
    c.empty_frame.ensures.fault (λ some. absurd (some zero))

pub form_columns_into-requires : goal.form_columns_into-requires
form_columns_into-requires g c κs within =
    let z : ℤ = g.I.Number.value c.args.n in
    let a_p : List ℤ = map g.I.Number.value c.args.a_p.now in
    let a_i : List ℤ = map g.I.Number.value c.args.a_i.now in
    let exact = g.met.I.Integral.exact_law in
    let form = c.in-Ok.ensures.form c.if-size-eq0.false in
    let fits : (j : ℕ) → j < c.in-Ok.size → g.I.Number.fits (pos j) = λ j l. (
    let size = c.in-Ok.ensures.size in
    let low : pos 0 ≤ℤ pos j = omega (arith, ints) in
    let most : pos j ≤ℤ z = omega (arith, ints, l, size) in
    g.I.Number.between_law (pos 0) (pos j) z exact (g.met.I.Zero.zero_fits_law exact) c.requires.fits low most) in
    (within.0, (within.1, record { posed = record { form = form; graph = refl; rows = refl }; fit = fits }))

pub returns-clause-factor : goal.returns-clause-factor
returns-clause-factor g c =
    let a_p : List ℤ = map g.I.Number.value c.args.a_p.now in
    let a_i : List ℤ = map g.I.Number.value c.args.a_i.now in
    let p : List ℤ = map g.I.Number.value c.args.p.now in
    let old : List ℤ = map g.I.Number.value c.args.rows.now in
    let new : List ℤ = map g.I.Number.value c.form_columns_into.new.rows in
    subst (λ z. IfOk c.form_columns_into.result (λ f. WritesFactor z a_p a_i p old new f.ptr.items f.parent.items)) c.in-Ok.ensures.size
    c.form_columns_into.ensures.factor

pub returns-clause-fault : goal.returns-clause-fault
returns-clause-fault g c =
    let a_p : List ℤ = map g.I.Number.value c.args.a_p.now in
    let a_i : List ℤ = map g.I.Number.value c.args.a_i.now in
    let p : List ℤ = map g.I.Number.value c.args.p.now in
    subst (λ z. IfErr c.form_columns_into.result (IsFault z a_p a_i p (length c.args.rows.now))) c.in-Ok.ensures.size
    c.form_columns_into.ensures.fault
