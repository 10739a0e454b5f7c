use Rattle.std.proofs.Common.{ℤ, List, ◌≡◌, ◌++◌, drop, length, map, pos, subst, ◌∙◌}
use Rattle.amd_types.specs.Naturals.{naturals}
use Rattle.amd_factor.specs.Orders.{Permutes}
use Rattle.amd_factor.proofs.Calls.ColumnParts.{factor_of}
use Rattle.amd_calls.proofs.factor_within.columns_inside.Goals as goal

pub returns-in-Some-clause-factor : goal.returns-in-Some-clause-factor
returns-in-Some-clause-factor g c =
    let value = g.I.Index.value in
    let a_p : List ℤ = map value c.args.a_p.now in let a_i : List ℤ = map value c.args.a_i.now in
    let p : List ℤ = map value c.args.p.now in
    let f = c.in-Some.ensures.factor in
    let permutes = subst (λ n. Permutes n p (naturals p)) (c.fill.ensures.len ∙ c.split_at_mut-places.ensures.front_len)
    (c.place_rows.ensures.permutation c.if-not-place_rows.false) in
    let posed = c.requires.1.0 in (
      record {
        entries = f.0;
        factor = factor_of (length c.args.parents.now) a_p a_i p g.o posed.graph posed.rows posed.form permutes c.lent_columns.new.ptr f.0
            c.lent_columns.new.parent f.3;
        written = subst (λ m. map value c.lent_columns.new.rows ≡ map pos f.0 ++ drop m (map value c.args.rows.now)) f.1 f.2;
      },
      f.1,
    )
