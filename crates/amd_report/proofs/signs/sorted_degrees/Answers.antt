-- The degrees, the diagonal and the pointers give the figures.
use Rattle.std.proofs.Common.{◌≡◌, ◌∙◌, ℕ, List, length, map, pos, ap, refl, sym, subst}
use Rattle.std.specs.Prelude.{slice_index}
use Rattle.amd_model.specs.Below.{sum_below}
use Rattle.amd_edges.specs.Visits.{AreCounts}
use Rattle.amd_input.proofs.PatternLemmas.{degrees_are, diagonal_within, figures_are}
use Rattle.amd_count_laws.proofs.CountsBack.{counts_back}
use Rattle.amd_report.proofs.Passing.{diagonal-same, form-rising, graph-same}
use Rattle.amd_report.proofs.signs.sorted_degrees.Goals as goal

pub degrees_of-requires : goal.degrees_of-requires
degrees_of-requires g c = form-rising c.args.n c.args.a_p.now c.args.a_i.now c.requires.form c.requires.sorted

pub count_diagonal-diagonals-requires : goal.count_diagonal-diagonals-requires
count_diagonal-diagonals-requires g c = form-rising c.args.n c.args.a_p.now c.args.a_i.now c.requires.form c.requires.sorted

pub overflow_sub-outside : goal.overflow_sub-outside
overflow_sub-outside g c =
    let n : ℕ = c.args.n in
    diagonal_within n (map pos c.args.a_p.now) (map pos c.args.a_i.now) c.requires.form c.requires.sorted c.count_diagonal-diagonals.result
    (slice_index c.args.a_p.now n)
    (c.count_diagonal-diagonals.ensures ∙ sym (diagonal-same n c.args.a_p.now c.args.a_i.now c.requires.form))
    (ap (λ z. slice_index z n) (sym (counts_back c.args.a_p.now)))

pub returns-clause-degrees : goal.returns-clause-degrees
returns-clause-degrees g c =
    let n : ℕ = c.args.n in
    let numbers : List ℕ = c.in_ok-degrees.degrees.items in
    degrees_are n (map pos c.args.a_p.now) (map pos c.args.a_i.now) numbers c.in-Some.sum
    (subst (λ h. AreCounts h h.edge numbers) (sym (graph-same n c.args.a_p.now c.args.a_i.now c.requires.form)) c.in_ok-degrees.ensures)
    (subst (λ l. c.in-Some.sum ≡ sum_below (length l) (λ k. slice_index l k)) c.deref.ensures.value c.in-Some.ensures.1)

pub returns-clause-figures : goal.returns-clause-figures
returns-clause-figures g c =
    let n : ℕ = c.args.n in
    let numbers : List ℕ = c.in_ok-degrees.degrees.items in
    let counted = degrees_are n (map pos c.args.a_p.now) (map pos c.args.a_i.now) numbers c.in-Some.sum
    (subst (λ h. AreCounts h h.edge numbers) (sym (graph-same n c.args.a_p.now c.args.a_i.now c.requires.form)) c.in_ok-degrees.ensures)
    (subst (λ l. c.in-Some.sum ≡ sum_below (length l) (λ k. slice_index l k)) c.deref.ensures.value c.in-Some.ensures.1) in
    figures_are n (map pos c.args.a_p.now) (map pos c.args.a_i.now) c.requires.form c.requires.sorted _ refl
    (ap (λ z. slice_index z n) (sym (counts_back c.args.a_p.now)))
    (c.count_diagonal-diagonals.ensures ∙ sym (diagonal-same n c.args.a_p.now c.args.a_i.now c.requires.form)) counted.sum refl
