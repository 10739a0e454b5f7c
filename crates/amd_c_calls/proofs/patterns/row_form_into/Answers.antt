-- What was copied is the row form.
use Rattle.std.proofs.Common.{◌≡◌, ◌++◌, map, length, drop, sym, ◌∙◌, ap, arith, rules, subst}
use Rattle.std.proofs.lemmas.List.{drop-map, length-map, map-append}
use Rattle.amd_input.specs.Transposes.{IsCleanTranspose}
use Rattle.amd_model.specs.Input.Columns.{IsInput}
use Rattle.amd_c_calls.specs.Patterns.{HasPointerPlaces}
use Rattle.amd_c_calls.proofs.patterns.row_form_into.Goals as goal

pub returns : goal.returns
returns g c =
    let value = g.I.Number.value in let matrix = c.args.matrix in
    let columns = c.in-Ok.columns.items in
    let behind = drop c.len-2.result c.args.indices.now in
    let l = c.len-2.ensures in
    let d = c.deref-2.ensures.len in
    let f = ap length c.deref-2.ensures.value in
    let m = length-map columns value in
    let size : c.len-2.result ≡ length (map value columns) = omega (arith, l, d, f, m) in
    let pointers = ap (map value) (c.copy_from_slice.ensures.after ∙ c.deref.ensures.value) in
    let form : IsInput (value matrix.n) (value matrix.n) (map value matrix.a_p.now) (map value matrix.a_i.now) = search rules in
    let places : HasPointerPlaces (value matrix.n) (map value c.args.pointers.now) = search rules in
    record {
      form = form;
      places = places;
      indices = map value columns;
      clean = subst (λ x. IsCleanTranspose (value matrix.n) (map value matrix.a_p.now) (map value matrix.a_i.now) x (map value columns))
          (sym pointers) c.in-Ok.ensures.clean;
      written = map-append value c.copy_from_slice-2.new.self behind
          ∙ ap (λ x. x ++ map value behind) (ap (map value) (c.copy_from_slice-2.ensures.after ∙ c.deref-2.ensures.value))
          ∙ ap (λ x. map value columns ++ x) (sym (drop-map value c.len-2.result c.args.indices.now))
          ∙ ap (λ k. map value columns ++ drop k (map value c.args.indices.now)) size;
    }
