use Rattle.std.proofs.Common.{◌≡◌, ◌<◌, ◌*◌, ◌^◌, ℕ, ℤ, List, map, length, get_or, arith, refl, sym, subst, pos}
use Rattle.std.proofs.lemmas.List.{length-map}
use Rattle.amd_model.specs.Below.{sum_below}
use Rattle.amd_model.specs.Input.Columns.{IsColumnForm, IsSorted}
use Rattle.amd_model.specs.Input.Pattern.{graph_of}
use Rattle.amd_types.specs.Naturals.{naturals}
use Rattle.amd_edges.specs.Visits.{AreCounts}
use Rattle.amd_edges.proofs.Forms.{pointer_fits}
use Rattle.amd_input.proofs.PatternLemmas.{degrees_are, figures_are, diagonal_within}
use Rattle.amd_input.proofs.Symmetry.{arcs_twice}
use Rattle.amd_input.proofs.aat.aat_within.Goals as goal

pub count_at-entries-requires-clause-fits : goal.count_at-entries-requires-clause-fits
count_at-entries-requires-clause-fits g c = pointer_fits c.args.size (map g.I.Index.value c.args.a_p.now)
    (map g.I.Index.value c.args.a_i.now) c.requires.form c.args.size (omega arith) (simp length-map (omega arith))

-- the sum of the degrees is at most twice the entries, and so it is a count
sum_small : (n : ℕ) (ap' ai : List ℤ) (numbers : List ℕ) → IsColumnForm (pos n) n ap' ai → IsSorted n ap' ai →
    AreCounts (graph_of n ap' ai) ((graph_of n ap' ai).edge) numbers → 2 * get_or (naturals ap') n 0 < 2 ^ 64 →
    sum_below (length numbers) (λ k. get_or numbers k 0) < 2 ^ 64
sum_small n ap' ai numbers form sorted held small =
    let sum = (degrees_are n ap' ai numbers (sum_below (length numbers) (λ k. get_or numbers k 0)) held refl).sum in
    let twice = arcs_twice n ap' ai form sorted in
    omega (arith, sum, twice, small)

pub unreachable-requires : goal.unreachable-requires
unreachable-requires g c =
    c.in_default.ensures (subst (λ l. sum_below (length l) (λ k. get_or l k 0) < 2 ^ 64) (sym c.deref.ensures.value)
    (sum_small c.args.size (map g.I.Index.value c.args.a_p.now) (map g.I.Index.value c.args.a_i.now)
    c.count_degrees-diagonals.new.counter.degrees.items c.requires.form c.requires.sorted c.count_degrees-diagonals.ensures.counted.degrees
    c.requires.small))

pub write_figures-requires : goal.write_figures-requires
write_figures-requires g c =
    diagonal_within c.args.size (map g.I.Index.value c.args.a_p.now) (map g.I.Index.value c.args.a_i.now) c.requires.form
    c.requires.sorted c.count_degrees-diagonals.result c.count_at-entries.result c.count_degrees-diagonals.ensures.counted.diagonals
    c.count_at-entries.ensures.count

pub returns-clause-degrees : goal.returns-clause-degrees
returns-clause-degrees g c =
    degrees_are c.args.size (map g.I.Index.value c.args.a_p.now) (map g.I.Index.value c.args.a_i.now)
    c.count_degrees-diagonals.new.counter.degrees.items c.in-Some.sum c.count_degrees-diagonals.ensures.counted.degrees
    (subst (λ l. c.in-Some.sum ≡ sum_below (length l) (λ k. get_or l k 0)) c.deref.ensures.value c.in-Some.ensures.1)

pub returns-clause-few : goal.returns-clause-few
returns-clause-few g c =
    let n = c.args.size in
    let ap' : List ℤ = map g.I.Index.value c.args.a_p.now in let ai : List ℤ = map g.I.Index.value c.args.a_i.now in
    let degrees = degrees_are n ap' ai c.count_degrees-diagonals.new.counter.degrees.items c.in-Some.sum
    c.count_degrees-diagonals.ensures.counted.degrees
    (subst (λ l. c.in-Some.sum ≡ sum_below (length l) (λ k. get_or l k 0)) c.deref.ensures.value c.in-Some.ensures.1) in
    let sum = degrees.sum in let twice = arcs_twice n ap' ai c.requires.form c.requires.sorted in
    omega (arith, sum, twice)

pub returns-clause-figures : goal.returns-clause-figures
returns-clause-figures g c =
    let n = c.args.size in
    let ap' : List ℤ = map g.I.Index.value c.args.a_p.now in let ai : List ℤ = map g.I.Index.value c.args.a_i.now in
    let degrees = degrees_are n ap' ai c.count_degrees-diagonals.new.counter.degrees.items c.in-Some.sum
    c.count_degrees-diagonals.ensures.counted.degrees
    (subst (λ l. c.in-Some.sum ≡ sum_below (length l) (λ k. get_or l k 0)) c.deref.ensures.value c.in-Some.ensures.1) in
    rw c.write_figures.ensures (figures_are n ap' ai c.requires.form c.requires.sorted _ refl c.count_at-entries.ensures.count
    c.count_degrees-diagonals.ensures.counted.diagonals degrees.sum refl)
