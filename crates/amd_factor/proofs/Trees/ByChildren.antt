-- A column by its children: what lies in the subtree of a row lies there by an edge, or stands over a child that does.
use Rattle.std.proofs.Common.{ℕ, true, ◌≡◌, ◌<◌, ◌⊎◌, inl, inr, refl, subst, arith, List, length}
use Rattle.std.specs.Prelude.{slice_index}
use Rattle.amd_model.specs.Graph.{Graph, IsGraph}
use Rattle.amd_model.specs.Reach.{direct}
use Rattle.amd_factor.specs.Trees.{Entry, IsParent, Over, itself, up, ColumnsByChildren}
use Rattle.amd_factor.proofs.Trees.TreePaths.{entry_in_subtree, subtree_entry}

module _ (g : Graph) (p : List ℕ) where
  -- one step more
  over_then : {i k q : ℕ} → Over g p i k → IsParent g p k q → Over g p i q
  over_then itself h = up h itself
  over_then (up a o) h = up a (over_then o h)

  -- the last step to what stands over a place
  over_last : {i k : ℕ} → Over g p i k → (i ≡ k) ⊎ ((c : ℕ) × IsParent g p c k × Over g p i c)
  over_last itself = inl refl
  over_last {i} {k} (up {parent = q} h o) = elim (over_last o) [
    | inl same ↦ inr (i, subst (λ x. IsParent g p i x) same h, itself)
    | inr r ↦ inr (r.0, r.1, up h r.2)
  ]

  module _ (laws : IsGraph g) (k j : ℕ) (low : k < j) (n : j < length p) where
    pub entry_by_edge : g.edge (slice_index p k) (slice_index p j) ≡ true → Entry g p k j
    entry_by_edge e = (low, n, direct e)

    pub entry_by_child : (c : ℕ) → IsParent g p c k → Entry g p c j → Entry g p k j
    entry_by_child c h e = let s = entry_in_subtree g p laws c j e in
        subtree_entry g p laws k j low n (s.0, s.1, s.2, over_then s.3 h)

    pub entry_from : Entry g p k j → (g.edge (slice_index p k) (slice_index p j) ≡ true) ⊎
        ((c : ℕ) × IsParent g p c k × Entry g p c j)
    entry_from e = let s = entry_in_subtree g p laws k j e in elim (over_last s.3) [
      | inl same ↦ inl (subst (λ x. g.edge (slice_index p x) (slice_index p j) ≡ true) same s.2)
      | inr r ↦ (let under = r.1.entry.0 in
          inr (r.0, r.1, subtree_entry g p laws r.0 j (omega (arith, under, low)) n (s.0, s.1, s.2, r.2)))
    ]

pub columns_by_children : ColumnsByChildren
columns_by_children g laws p k j l n = (
  entry_from g p laws k j l n,
  (λ h. elim h [
    | inl e ↦ entry_by_edge g p laws k j l n e
    | inr r ↦ entry_by_child g p laws k j l n r.0 r.1 r.2
  ]),
)
