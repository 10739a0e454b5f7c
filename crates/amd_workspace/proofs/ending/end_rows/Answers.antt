-- Row by row: what was written before stays, and the row that is written reads what stood there at the start.
use Rattle.std.proofs.Common.{ℕ, ◌≡◌, arith, refl, ap, ◌∙◌, below_more, cond, pos, negsuc, get_or-set_same, get_or-set_other}
use Rattle.std.proofs.Common.{◌-◌}
use Rattle.std.specs.Prelude.{nat_lt}
use Rattle.amd_words.specs.Words.{num, word, is_place}
use Rattle.amd_rounds.specs.Views.{is_flip, flipped}
use Rattle.amd_workspace.specs.Ending.{named_word}
use Rattle.amd_workspace.proofs.ending.end_rows.Goals as goal

pub rows-init : goal.rows-init
rows-init g c = record { lengths = c.requires.lengths; ends = λ i l. absurd (omega (arith, l)); rest = λ j l. (refl, refl) }

pub end_element-requires-clause-narrow : goal.end_element-requires-clause-narrow
end_element-requires-clause-narrow g c = let k : ℕ = c.rows.i in let here = c.rows.invariant.rest k (omega arith) in
    let border = num c.args.degree.now k in let most = c.requires.blocks k c.rows-test.true in
    let same = ap (λ z. cond (is_flip z) (flipped z - border) 0) here.1 in (c.requires.narrow, omega (arith, same, most))

pub rows-preserved : goal.rows-preserved
rows-preserved g c =
    let v = c.rows.invariant in let k : ℕ = c.rows.i in let t = c.rows-test.true in let long = v.lengths in
    let pe_is = c.end_link.ensures in let e_len_is = c.end_element.ensures.fronts in let nv_is = c.end_element.ensures.blocks in
    let here = v.rest k (omega arith) in let border = num c.args.degree.now k in
    record {
      lengths = (c.end_link.auto.pe ∙ long.0, c.end_element.auto.e_len ∙ long.1, c.end_element.auto.nv ∙ long.2);
      ends = below_more _ k
          (λ i l. let ne : i ≡ k → ⊥ = (λ e. omega (arith, l, e)) in record {
            links = ap (λ xs. word xs i) pe_is ∙ get_or-set_other c.rows.pe k i _ (pos 0) ne ∙ (v.ends i l).links;
            fronts = ap (λ xs. word xs i) e_len_is ∙ get_or-set_other c.rows.e_len k i _ (pos 0) ne ∙ (v.ends i l).fronts;
            blocks = ap (λ xs. word xs i) nv_is ∙ get_or-set_other c.rows.nv k i _ (pos 0) ne ∙ (v.ends i l).blocks;
          })
          (record {
            links = ap (λ xs. word xs k) pe_is ∙ get_or-set_same c.rows.pe k _ (pos 0) (let a = long.0 in omega (arith, a, t))
                ∙ ap (λ z. cond (is_place z) (negsuc 0) (named_word (word c.rows.pe k))) here.1
                ∙ ap (λ z. cond (is_place (word c.args.e_len.now k)) (negsuc 0) (named_word z)) here.0;
            fronts = ap (λ xs. word xs k) e_len_is ∙ get_or-set_same c.rows.e_len k _ (pos 0) (let a = long.1 in omega (arith, a, t))
                ∙ ap (λ z. cond (nat_lt border (flipped z)) (pos (flipped z)) (negsuc 0)) here.1;
            blocks = ap (λ xs. word xs k) nv_is ∙ get_or-set_same c.rows.nv k _ (pos 0) (let a = long.2 in omega (arith, a, t))
                ∙ ap (λ z. pos (cond (is_flip z) (flipped z - border) 0)) here.1;
          });
      rest = λ j l. let ne : j ≡ k → ⊥ = (λ e. omega (arith, l, e)) in let was = v.rest j (omega (arith, l)) in (
        ap (λ xs. word xs j) pe_is ∙ get_or-set_other c.rows.pe k j _ (pos 0) ne ∙ was.0,
        ap (λ xs. word xs j) e_len_is ∙ get_or-set_other c.rows.e_len k j _ (pos 0) ne ∙ was.1,
      );
    }
