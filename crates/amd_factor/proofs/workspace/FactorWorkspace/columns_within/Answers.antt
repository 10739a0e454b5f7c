use Rattle.std.proofs.Common.{ℕ, ℤ, List, pos, ◌≡◌, ◌<◌, length, map, refl, sym, ap, subst, ◌∙◌, arith}
use Rattle.std.specs.Prelude.{◌≤ℤ◌}
use Rattle.std.proofs.lemmas.Int.{ints}
use Rattle.amd_model.specs.Input.Columns.{IsColumnForm}
use Rattle.amd_factor.specs.Within.{IsRefusal, IsUnwritten}
use Rattle.amd_factor.proofs.Calls.WithinParts.{error_of, no_columns, room_within, unwritten_refused}
use Rattle.amd_factor.proofs.workspace.FactorWorkspace.columns_within.Goals as goal

pub returns-then-size-eq0-clause-factor : goal.returns-then-size-eq0-clause-factor
returns-then-size-eq0-clause-factor g c =
    no_columns (g.I.Number.value c.args.n) _ _ _ (map g.I.Number.value c.args.rows.now) c.args.ptr.now c.args.parent.now
    (sym (ap pos c.if-size-eq0.true) ∙ c.in_ok-size.ensures.size) (c.in_ok-size.ensures.none c.if-size-eq0.true) c.requires.places

pub columns_inside-requires : goal.columns_inside-requires
columns_inside-requires g c κs inside =
    let z : ℤ = g.I.Number.value c.args.n in
    let a_p : List ℤ = map g.I.Number.value c.args.a_p.now in
    let a_i : List ℤ = map g.I.Number.value c.args.a_i.now in
    let exact = g.met.I.Integral.exact_law in
    let size = c.in_ok-size.ensures.size in
    let long = c.requires.places c.in_ok-size.size size in
    let parents : length c.args.parent.now ≡ c.in_ok-size.size = long.1 in
    let pointers = long.0 in
    let sized = c.args.self.now.sized in
    let fits = room_within z c.in_ok-size.size a_p c.args.self.now.rows c.args.self.now.entries size c.if-size-eq0.false
    c.in_ok-size.ensures.fits in
    let numbers : length c.deref_mut.result.now ≡ length c.args.self.now.numbers.items = omega (arith, c.deref_mut.ensures) in
    let links : length c.deref_mut-2.result.now ≡ length c.args.self.now.links.items = omega (arith, c.deref_mut-2.ensures) in
    let low_fits : (j : ℕ) → j < length c.args.parent.now → g.I.Number.fits (pos j) = λ j l. (
    let low : pos 0 ≤ℤ pos j = omega (arith, ints) in
    let most : pos j ≤ℤ z = omega (arith, ints, l, size, parents) in
    g.I.Number.between_law (pos 0) (pos j) z exact (g.met.I.Zero.zero_fits_law exact) c.requires.fits low most) in (
      inside,
      (
        record {
          form = subst (λ n. IsColumnForm (pos n) n a_p a_i) (sym parents) (c.in_ok-size.ensures.form c.if-size-eq0.false);
          graph = refl;
          rows = refl;
        },
        (
          low_fits,
          (
            (omega (arith, pointers, parents), omega (arith, links, sized, fits, parents)),
            rw parents (omega (arith, numbers, sized, fits)),
          ),
        ),
      ),
    )

pub returns-clause-refused : goal.returns-clause-refused
returns-clause-refused g c =
    let z : ℤ = g.I.Number.value c.args.n in
    let a_p : List ℤ = map g.I.Number.value c.args.a_p.now in
    let a_i : List ℤ = map g.I.Number.value c.args.a_i.now in
    let p : List ℤ = map g.I.Number.value c.args.p.now in
    let size = c.in_ok-size.ensures.size in
    let long = c.requires.places c.in_ok-size.size size in
    error_of c.columns_inside.result (λ e. IsUnwritten (length c.args.parent.now) a_p a_i p (length c.args.rows.now) e)
    (λ e. IsUnwritten (length c.args.parent.now) a_p a_i p (length c.args.rows.now) e)
    (λ e. IsRefusal z a_p a_i p c.args.self.now.rows c.args.self.now.entries (length c.args.rows.now) e)
    c.columns_inside.ensures.fault c.columns_inside.ensures.fault
    (λ e h _. unwritten_refused z c.in_ok-size.size a_p a_i p c.args.self.now.rows c.args.self.now.entries (length c.args.rows.now) e size
    (c.in_ok-size.ensures.form c.if-size-eq0.false) c.in_ok-size.ensures.fits
    (subst (λ n. IsUnwritten n a_p a_i p (length c.args.rows.now) e) long.1 h))
