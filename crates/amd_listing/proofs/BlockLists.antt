-- Two trees with the same nodes, parents and weights are listed alike, each with its own blocks.
use Rattle.std.proofs.Common.{ℕ, ℤ, Bool, true, false, ◌≡◌, ◌<◌, ◌&&◌, ◌++◌, ◌∷◌, [], not, cond, inl, inr, refl, sym, ◌∙◌, ap}
use Rattle.std.proofs.Common.{subst, List, length, Option, is_none}
use Rattle.std.specs.Prelude.{◌==◌, nat_le, filter, flat_map, slice_index}
use Rattle.std.proofs.lemmas.List.{append_assoc}
use Rattle.amd_model.specs.Below.{list_below}
use Rattle.amd_model.specs.Graph.{Graph}
use Rattle.amd_model.specs.State.{State, block_at}
use Rattle.amd_model.specs.Quotient.{has}
use Rattle.amd_model.proofs.Counting.Places.{has_place}
use Rattle.amd_model.specs.Listing.{Tree, is_some_of, is_child, heaviest, heaviest_last, children, roots, ListsTrees, none, more}
use Rattle.amd_model.specs.Listing.{assembly_tree, block_list, IsPostorder}
use Rattle.amd_model.proofs.Listings.Words.{has_head, has_tail, has_cases, has_below}
use Rattle.amd_round_laws.proofs.Lists.Named.{flat_same}
use Rattle.amd_round_laws.proofs.Lists.Rising.{list_same}
use Rattle.amd_postorder.proofs.ForestListings.{IsRanked, child_node, roots_siblings, listed_from}
use Rattle.amd_postorder.specs.Trees.{IsPostorderOf}

-- weights that agree on a list have the same heaviest one
heaviest_same : (w u : ℕ → ℕ) (e : ℕ) (xs : List ℕ) → ((k : ℕ) → has (e ∷ xs) k ≡ true → w k ≡ u k) → heaviest w e xs ≡ heaviest u e xs
unfolding heaviest
heaviest_same w u e [] h = refl
heaviest_same w u e (k ∷ rest) h =
    go (nat_le (w e) (w k)) (λ b. heaviest_same w u (cond b k e) rest)
    ∙ ap (λ a. heaviest u (cond (nat_le a (w k)) k e) rest) (h e (has_head e e (k ∷ rest) refl))
    ∙ ap (λ a. heaviest u (cond (nat_le (u e) a) k e) rest) (h k (has_tail k e (k ∷ rest) (has_head k k rest refl)))
  where
    go : (b : Bool) → ((b : Bool) → ((x : ℕ) → has (cond b k e ∷ rest) x ≡ true → w x ≡ u x) →
        heaviest w (cond b k e) rest ≡ heaviest u (cond b k e) rest) → heaviest w (cond b k e) rest ≡ heaviest u (cond b k e) rest
    go true on = on true (λ x m. h x (has_tail x e (k ∷ rest) m))
    go false on = on false
        (λ x m. h x (elim (has_cases x e rest m) [
          | inl q ↦ has_head x e (k ∷ rest) q
          | inr q ↦ has_tail x e (k ∷ rest) (has_tail x k rest q)
        ]))

moved_same : (w u : ℕ → ℕ) (xs : List ℕ) → ((k : ℕ) → has xs k ≡ true → w k ≡ u k) → heaviest_last w xs ≡ heaviest_last u xs
unfolding heaviest_last
moved_same w u [] h = refl
moved_same w u (k ∷ rest) h = ap (λ m. filter (λ x. not (x == m)) (k ∷ rest) ++ m ∷ []) (heaviest_same w u k rest h)

guarded : (a b : Bool) (f : Option ℕ → Bool) (o p : Option ℕ) → a ≡ b → (a ≡ true → o ≡ p) → (a && f o) ≡ (b && f p)
guarded true b f o p q h = ap f (h refl) ∙ ap (λ c. c && f p) q
guarded false b f o p q h = ap (λ c. c && f p) q

pub flat_append : (f : ℕ → List ℕ) (xs ys : List ℕ) → flat_map f (xs ++ ys) ≡ flat_map f xs ++ flat_map f ys
flat_append f [] ys = refl
flat_append f (x ∷ xs) ys = ap (λ zs. f x ++ zs) (flat_append f xs ys) ∙ sym (append_assoc (f x) (flat_map f xs) (flat_map f ys))

-- the same nodes, parents and weights
pub record AreAlike (t u : Tree) : Type 0 where
  pub size : t.size ≡ u.size
  pub node : (e : ℕ) → e < u.size → t.is_node e ≡ u.is_node e
  pub parent : (e : ℕ) → e < u.size → t.is_node e ≡ true → t.parent e ≡ u.parent e
  pub weight : (e : ℕ) → e < u.size → t.is_node e ≡ true → t.weight e ≡ u.weight e

module _ (t u : Tree) (a : AreAlike t u) where
  pub children_alike : (e : ℕ) → children t e ≡ children u e
  unfolding children is_child
  children_alike e =
      ap (heaviest_last t.weight) (ap (λ n. list_below n (is_child t e)) a.size
      ∙ list_same u.size (is_child t e) (is_child u e) (λ k l. guarded (t.is_node k) (u.is_node k) (is_some_of e) (t.parent k) (u.parent k)
      (a.node k l) (a.parent k l)))
      ∙ moved_same t.weight u.weight (list_below u.size (is_child u e)) (λ k h. let r = has_below u.size (is_child u e) k h in
      a.weight k r.0 (a.node k r.0 ∙ (child_node u e k r.1).0))

  pub roots_alike : roots t ≡ roots u
  unfolding roots
  roots_alike = ap (λ n. list_below n (λ e. t.is_node e && is_none (t.parent e))) a.size
      ∙ list_same u.size (λ e. t.is_node e && is_none (t.parent e)) (λ e. u.is_node e && is_none (u.parent e))
      (λ k l. guarded (t.is_node k) (u.is_node k) is_none (t.parent k) (u.parent k) (a.node k l) (a.parent k l))

  -- a listing of the nodes themselves, each of them replaced by its block in the other tree
  pub listed_alike : ((e : ℕ) → t.block e ≡ e ∷ []) → {es xs : List ℕ} → ListsTrees t es xs → ListsTrees u es (flat_map u.block xs)
  listed_alike one none = none
  listed_alike one (more {e} {rest} {below} {after} l r) =
      let joined : flat_map u.block (below ++ (t.block e ++ after)) ≡ flat_map u.block below ++ (u.block e ++ flat_map u.block after) =
      flat_append u.block below (t.block e ++ after) ∙ ap (λ b. flat_map u.block below ++ flat_map u.block (b ++ after)) (one e) in
      subst (ListsTrees u (e ∷ rest)) (sym joined)
      (more (subst (λ es. ListsTrees u es (flat_map u.block below)) (children_alike e) (listed_alike one l)) (listed_alike one r))

-- the blocks of a listing of the elements, and then the rows held last, are the listing of the assembly tree
module _ (g : Graph) (dense : ℕ → Bool) (s : State) (t : Tree) (a : AreAlike t (assembly_tree g s)) (ranked : IsRanked t) (order : List ℤ)
    (o : IsPostorderOf t order) where
  -- each number of the listing names a node
  pub listing_node : (e : ℕ) → has o.listing e ≡ true → t.is_node e ≡ true
  unfolding roots
  listing_node e h = (listed_from t ranked (roots_siblings t t.size) o.lists e h).2

  pub listing_inside : (k : ℕ) → k < length o.listing → slice_index o.listing k < t.size
  listing_inside k l = ranked.small (slice_index o.listing k) (listing_node (slice_index o.listing k) (has_place o.listing k l))

  pub blocks_listed : (p : List ℕ) (rows : ℕ → List ℕ) (last : ℕ → Bool) →
      ((e : ℕ) → e < g.size → rows e ≡ list_below g.size (λ v. block_at e (s.home v) && not (v == e))) →
      ((v : ℕ) → v < g.size → last v ≡ dense v) → p ≡ flat_map (λ e. rows e ++ e ∷ []) o.listing ++ list_below g.size last →
      IsPostorder g dense s p
  unfolding block_list
  blocks_listed p rows last each held is = record {
    blocks = flat_map (block_list g s) o.listing;
    lists = subst (λ es. ListsTrees (assembly_tree g s) es (flat_map (block_list g s) o.listing)) (roots_alike t (assembly_tree g s) a)
        (listed_alike t (assembly_tree g s) a ranked.one o.lists);
    is = is ∙ ap (λ ys. ys ++ list_below g.size last) (flat_same (λ e. rows e ++ e ∷ []) (block_list g s) o.listing
        (λ e h. ap (λ ys. ys ++ e ∷ []) (each e (subst (λ n. e < n) a.size (ranked.small e (listing_node e h))))))
        ∙ ap (λ ys. flat_map (block_list g s) o.listing ++ ys) (list_same g.size last dense held);
  }
