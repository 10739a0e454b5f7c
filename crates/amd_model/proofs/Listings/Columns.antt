-- Under a postordered listing the column of a row lies in its block, its element's border and the dense rows.
use Rattle.std.proofs.Common.{ℕ, Bool, true, false, ◌≡◌, ◌<◌, ◌≤◌, ◌⊎◌, inl, inr, sym, ◌∙◌, subst, List, ◌∷◌, ◌++◌}
use Rattle.std.proofs.lemmas.Bool.{false_from_ne_true}
use Rattle.amd_model.specs.Below.{list_below}
use Rattle.amd_model.specs.Graph.{Graph}
use Rattle.amd_model.specs.State.{State, Last, Gone, live}
use Rattle.amd_model.specs.Reach.{Reach}
use Rattle.amd_model.specs.Listing.{assembly_tree, roots, IsPostorder}
use Rattle.amd_model.proofs.Listings.Tree.{IsTree, self, in_dense, in_block_e, in_border, path_inside}
use Rattle.amd_model.proofs.Listings.Words.{has_mid, has_left, split_append, has_below, IsLevel, roots_level, listed_from, lower_first}
use Rattle.amd_model.proofs.Listings.Words.{upper_later}
use Rattle.amd_model.specs.Quotient.{has}

module _ (g : Graph) (s : State) (tree : IsTree g s) (over : (v : ℕ) → live s v ≡ false) (rows : (v : ℕ) → g.size ≤ v → s.home v ≡ Last)
    (gone_below : (f e : ℕ) → s.home f ≡ Gone e → f < g.size)
    (dense : ℕ → Bool) (dense_last : (v : ℕ) → v < g.size → dense v ≡ true → s.home v ≡ Last) where
  -- a row that is not dense is among the blocks
  in_blocks : (blocks ps bs : List ℕ) (v e : ℕ) → s.home v ≡ Gone e → blocks ++ list_below g.size dense ≡ ps ++ v ∷ bs →
      (cs : List ℕ) × (blocks ≡ ps ++ v ∷ cs)
  in_blocks blocks ps bs v e hv q = elim (split_append blocks (list_below g.size dense) ps bs v q) [
    | inl r ↦ r
    | inr r ↦ absurd (let d = has_below g.size dense v (has_mid v (list_below g.size dense) r.0 bs r.2) in let l = dense_last v d.0 d.1 in
        cc)
  ]

  -- each row later than v that v reaches through earlier rows is dense, of the block of v, or on the border of its element
  pub column_inside : (p ps bs : List ℕ) (v w e : ℕ) → IsPostorder g dense s p → p ≡ ps ++ v ∷ bs → s.home v ≡ Gone e → has ps w ≡ false →
      Reach g (λ u. has ps u) v w →
      (s.home w ≡ Last) ⊎ (s.home w ≡ Gone e) ⊎ (s.border e w ≡ true)
  column_inside p ps bs v w e post q hv n r =
      let split = in_blocks post.blocks ps bs v e hv (sym post.is ∙ q) in
      let level : IsLevel s (roots (assembly_tree g s)) = roots_level g s tree rows in
      elim (path_inside g s tree over gone_below e (λ u. has ps u)
      (λ u h. false_from_ne_true (has ps u) (λ k. let a = listed_from g s tree rows level post.lists u
      (subst (λ m. has m u ≡ true) (sym split.1) (has_left u ps (v ∷ split.0) k)) in let b = a.3 in cc))
      (λ u f h a. false_from_ne_true (has ps u) (λ k. upper_later g s tree rows level post.lists ps split.0 v e u f split.1 hv h a k))
      (λ u f h a. lower_first g s tree rows level post.lists ps split.0 v e u f split.1 hv h a)
      e hv self n r) [
        | in_dense h ↦ inl h
        | in_block_e h ↦ inr (inl h)
        | in_border h ↦ inr (inr h)
      ]
