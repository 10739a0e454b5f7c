-- A walk has met each edge once its last column was read to the end.
use Rattle.std.proofs.Common.{◌≡◌, ℕ, ℤ, Bool, List, pos, ap, sym, ◌∙◌, subst, subst₂}
use Rattle.amd_model.specs.Graph.{Graph}
use Rattle.amd_model.specs.Input.Columns.{IsColumnForm, IsSorted}
use Rattle.amd_model.specs.Input.Pattern.{graph_of, is_pair}
use Rattle.amd_model.specs.Quotient.{met_edges}
use Rattle.amd_types.specs.Naturals.{naturals, count_graph, is_entry}
use Rattle.amd_edges.specs.Visits.{arcs_of}
use Rattle.amd_edges.specs.Walk.{IsScan, met}
use Rattle.amd_edges.proofs.Forms.{sorted_form, same_graph}
use Rattle.amd_edges.proofs.Ends.{done_met}
use Rattle.amd_edges.proofs.Orders.{edges_after, after_end, same_edges}

module _ (n : ℕ) (az bz : List ℤ) (form : IsColumnForm (pos n) n az bz) (sorted : IsSorted n az bz) where
  -- what holds of the arcs of all columns holds of those of the graph
  pub all_walked : (P : Graph → (ℕ → ℕ → Bool) → List (ℕ × ℕ) → Type 0) (j : ℕ) (t : List ℕ) → j ≡ n →
      IsScan n (naturals az) (naturals bz) t n j →
      P (count_graph n (naturals az) (naturals bz)) (met n (naturals az) (naturals bz) t n j)
      (arcs_of (edges_after (is_entry n (naturals az) (naturals bz)) n j)) →
      P (graph_of n az bz) ((graph_of n az bz).edge) (arcs_of (met_edges n (is_pair n az bz)))
  all_walked P j t last scan held =
      let ap' = naturals az in let ai = naturals bz in let form' = sorted_form n az bz form sorted in
      let all = done_met n ap' ai form' t (subst (λ x. IsScan n ap' ai t n x) last scan) in
      let edges = ap (edges_after (is_entry n ap' ai) n) last ∙ after_end (is_entry n ap' ai) n ∙ sym (same_edges n az bz form) in
      subst (λ h. P h h.edge (arcs_of (met_edges n (is_pair n az bz)))) (sym (same_graph n az bz form))
      (subst₂ (λ s l. P (count_graph n ap' ai) s (arcs_of l)) (ap (met n ap' ai t n) last ∙ all) edges held)
