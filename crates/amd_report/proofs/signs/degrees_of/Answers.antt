-- Before the first column nothing was met, and behind the last one each entry.
use Rattle.std.proofs.Common.{◌≡◌, ◌∙◌, ℕ, List, length, ap, refl, sym, subst}
use Rattle.amd_types.specs.Naturals.{count_graph}
use Rattle.amd_edges.specs.Visits.{AreCounts}
use Rattle.amd_input.proofs.Counting.{counts_none, zeros_of}
use Rattle.amd_lines.proofs.WrittenLists.{written}
use Rattle.amd_report.specs.Signs.{edge_met}
use Rattle.amd_report.proofs.Signing.{edges-all, edges-none, signs-none}
use Rattle.amd_report.proofs.signs.degrees_of.Goals as goal

pub meet_columns-requires-clause-sizes : goal.meet_columns-requires-clause-sizes
meet_columns-requires-clause-sizes g c =
    ap length c.deref_mut.ensures.value ∙ (zeros_of c.args.n _ (c.in_ok-signs.ensures.items_if_clones_equal (λ y h. h))).0
    ∙ sym (zeros_of c.args.n _ (c.in_ok-degrees.ensures.items_if_clones_equal (λ y h. h))).0 ∙ sym (ap length c.deref_mut-2.ensures.value)

pub meet_columns-requires-clause-form : goal.meet_columns-requires-clause-form
meet_columns-requires-clause-form g c =
    rw (c.deref_mut-2.ensures.value, (zeros_of c.args.n _ (c.in_ok-degrees.ensures.items_if_clones_equal (λ y h. h))).0) c.requires

pub meet_columns-requires-clause-signs : goal.meet_columns-requires-clause-signs
meet_columns-requires-clause-signs g c = signs-none c.args.a_p.now c.args.a_i.now c.deref_mut.result.now

pub meet_columns-requires-clause-degrees : goal.meet_columns-requires-clause-degrees
meet_columns-requires-clause-degrees g c =
    let zero = zeros_of c.args.n c.in_ok-degrees.degrees.items (c.in_ok-degrees.ensures.items_if_clones_equal (λ y h. h)) in
    let lent : List ℕ = c.deref_mut-2.result.now in
    let size : length lent ≡ c.args.n = ap length c.deref_mut-2.ensures.value ∙ zero.0 in
    rw (edges-none (length lent) c.args.a_p.now c.args.a_i.now)
    (counts_none (count_graph (length lent) c.args.a_p.now c.args.a_i.now) lent refl (rw c.deref_mut-2.ensures.value zero.1))

pub returns : goal.returns
returns g c =
    let n : ℕ = c.args.n in
    let new : List ℕ = c.meet_columns.new.degrees in
    let size = (zeros_of n c.in_ok-degrees.degrees.items (c.in_ok-degrees.ensures.items_if_clones_equal (λ y h. h))).0 in
    let long : length c.deref_mut-2.result.now ≡ n = ap length c.deref_mut-2.ensures.value ∙ size in
    let left = written c.in_ok-degrees.degrees.items c.deref_mut-2.result.now new c.in_ok-degrees.degrees.len n c.deref_mut-2.ensures.value
    size c.in_ok-degrees.degrees.ok.0 c.meet_columns.auto.degrees in
    let met = subst (λ k. AreCounts (count_graph k c.args.a_p.now c.args.a_i.now) (edge_met k c.args.a_p.now c.args.a_i.now k 0) new) long
    c.meet_columns.ensures.degrees in
    subst (AreCounts (count_graph n c.args.a_p.now c.args.a_i.now) ((count_graph n c.args.a_p.now c.args.a_i.now).edge)) (sym left.0)
    (subst (λ s. AreCounts (count_graph n c.args.a_p.now c.args.a_i.now) s new) (edges-all n c.args.a_p.now c.args.a_i.now) met)
