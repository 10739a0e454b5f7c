use Rattle.std.proofs.Common.{◌≡◌, ◌<◌, ℕ, ℤ, List, map, length, get_or, arith, refl, sym, subst, unsigned_abs, ◌∙◌}
use Rattle.std.specs.Int.{FitsUnsignedBits}
use Rattle.std.proofs.lemmas.List.{length-map}
use Rattle.amd_model.specs.Below.{sum_below}
use Rattle.amd_model.specs.Input.Columns.{at}
use Rattle.amd_model.specs.Input.Pattern.{graph_of, diagonal_count}
use Rattle.amd_types.specs.Naturals.{naturals}
use Rattle.amd_edges.proofs.Forms.{pointer_fits}
use Rattle.amd_edges.specs.Visits.{AreCounts}
use Rattle.amd_input.specs.Degrees.{AreDegrees, IsRisingForm}
use Rattle.amd_input.proofs.PatternLemmas.{input_form, input_sorted, input_fits, degrees_are, figures_are, diagonal_within}
use Rattle.amd_input.proofs.aat.aat.Goals as goal

pub known_count-size-requires : goal.known_count-size-requires
known_count-size-requires g c = input_fits (g.I.Number.value c.args.n) (map g.I.Number.value c.args.a_p.now)
    (map g.I.Number.value c.args.a_i.now) c.requires.form (simp length-map (omega arith))

pub degrees_of-requires : goal.degrees_of-requires
degrees_of-requires g c =
    let ap' : List ℤ = map g.I.Number.value c.args.a_p.now in let ai : List ℤ = map g.I.Number.value c.args.a_i.now in
    record {
      input = subst (λ k. IsRisingForm k ap' ai) (sym c.known_count-size.ensures) (record {
        form = input_form (g.I.Number.value c.args.n) ap' ai c.requires.form;
        sorted = input_sorted (g.I.Number.value c.args.n) ap' ai c.requires.sorted;
      });
    }

pub count_at-entries-requires : goal.count_at-entries-requires
count_at-entries-requires g c =
    let n : ℕ = unsigned_abs (g.I.Number.value c.args.n) in
    let ap' : List ℤ = map g.I.Number.value c.args.a_p.now in let ai : List ℤ = map g.I.Number.value c.args.a_i.now in
    let size : n ≡ c.known_count-size.result = sym c.known_count-size.ensures in
    let form = input_form (g.I.Number.value c.args.n) ap' ai c.requires.form in
    record {
      within = subst (λ k. k < length c.args.a_p.now) size
          (subst (λ k. n < k) (length-map c.args.a_p.now g.I.Number.value) form.enough);
      fits = subst (λ k. FitsUnsignedBits 64 (at ap' k)) size
          (pointer_fits n ap' ai form n (omega arith) (simp length-map (omega arith)));
    }

-- nothing is written before the sum is refused
pub returns-in_default-clause-unchanged : goal.returns-in_default-clause-unchanged
returns-in_default-clause-unchanged g c = refl

pub write_figures-requires : goal.write_figures-requires
write_figures-requires g c =
    let n : ℕ = unsigned_abs (g.I.Number.value c.args.n) in
    let ap' : List ℤ = map g.I.Number.value c.args.a_p.now in let ai : List ℤ = map g.I.Number.value c.args.a_i.now in
    let size = c.known_count-size.ensures in
    diagonal_within n ap' ai (input_form (g.I.Number.value c.args.n) ap' ai c.requires.form)
    (input_sorted (g.I.Number.value c.args.n) ap' ai c.requires.sorted) c.in_ok-diagonals.diagonals c.count_at-entries.result
    (subst (λ k. c.in_ok-diagonals.diagonals ≡ diagonal_count k ap' ai) size c.in_ok-diagonals.ensures.diagonals)
    (subst (λ k. c.count_at-entries.result ≡ get_or (naturals ap') k 0) size c.count_at-entries.ensures.count)

pub returns : goal.returns
returns g c =
    let n : ℕ = unsigned_abs (g.I.Number.value c.args.n) in
    let ap' : List ℤ = map g.I.Number.value c.args.a_p.now in let ai : List ℤ = map g.I.Number.value c.args.a_i.now in
    let size = c.known_count-size.ensures in
    let numbers : List ℕ = c.in_ok-diagonals.counter.degrees.items in
    let held = subst (λ k. AreCounts (graph_of k ap' ai) ((graph_of k ap' ai).edge) numbers) size c.in_ok-diagonals.ensures.degrees in
    let counted = degrees_are n ap' ai numbers c.in-Some.sum held
    (subst (λ l. c.in-Some.sum ≡ sum_below (length l) (λ k. get_or l k 0)) c.deref.ensures.value c.in-Some.ensures.1) in
    let copied : c.in_ok-degrees.degrees.items ≡ numbers = c.in_ok-degrees.ensures ∙ c.deref-2.ensures.value in
    record {
      degrees = subst (AreDegrees n ap' ai c.in-Some.sum) (sym copied) counted;
      figures = rw c.write_figures.ensures (figures_are n ap' ai (input_form (g.I.Number.value c.args.n) ap' ai c.requires.form)
          (input_sorted (g.I.Number.value c.args.n) ap' ai c.requires.sorted) _ size
          (subst (λ k. c.count_at-entries.result ≡ get_or (naturals ap') k 0) size c.count_at-entries.ensures.count)
          (subst (λ k. c.in_ok-diagonals.diagonals ≡ diagonal_count k ap' ai) size c.in_ok-diagonals.ensures.diagonals) counted.sum refl);
      others = rw c.write_figures.ensures refl;
      refused = tt;
      unchanged = tt;
    }
