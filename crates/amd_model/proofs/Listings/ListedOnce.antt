-- A listing of the tree of a run names each row once.
use Rattle.std.proofs.Common.{ℕ, zero, suc, Bool, true, ◌≡◌, ◌<◌, ◌≤◌, ◌+◌, ◌&&◌, not, ◌==◌, inl, inr, refl, sym, ◌∙◌, ap, subst, arith}
use Rattle.std.proofs.Common.{List, ◌∷◌, ◌++◌, Option, None, Some, is_none}
use Rattle.std.proofs.lemmas.Bool.{false_from_ne_true, true≢false, and_parts, and_from, eq-eqb, not-true}
use Rattle.amd_model.specs.Below.{list_below, sum_below}
use Rattle.amd_model.specs.Graph.{Graph}
use Rattle.amd_model.specs.State.{State, Home, Last, Live, Gone, in_block, is_element}
use Rattle.amd_model.specs.Run.{last_state}
use Rattle.amd_model.specs.Listing.{assembly_tree, block_list, roots, ListsTrees, none, more, IsPostorder, ListsEachRow}
use Rattle.amd_model.specs.Laws.{OfEachListing}
use Rattle.amd_model.proofs.Counting.Below.{term_le_sum, clash}
use Rattle.amd_model.proofs.States.Words.{live_from, block_from}
use Rattle.amd_model.proofs.Listings.Tree.{IsTree, Descends, self, via, descends_join}
use Rattle.amd_model.proofs.Listings.Words.{has_head, has_tail, has_append, has_left, has_right, has_below, below_has, IsLevel, rank_up}
use Rattle.amd_model.proofs.Listings.Words.{two_up, child_parent, children_level, head_level, tail_level, roots_level, block_rows}
use Rattle.amd_model.proofs.Listings.Words.{listed_from, listed}
use Rattle.amd_model.proofs.States.EndState.{IsEnd, at_the_end}
use Rattle.amd_model.proofs.Counting.Places.{place_of, length_once}
use Rattle.amd_model.specs.Quotient.{has, Once}
use Rattle.amd_model.proofs.Quotient.Lists.{once_push, once_append}
use Rattle.amd_model.proofs.Quotient.Start.{once_below}

module _ (g : Graph) (dense : ℕ → Bool) (s : State) (end : IsEnd g dense s) where
  tree : IsTree g s
  tree = end.made.tree

  outside_last : (v : ℕ) → g.size ≤ v → s.home v ≡ Last
  outside_last = end.made.sound.rows

  one_block : {u e f : ℕ} → s.home u ≡ Gone e → s.home u ≡ Gone f → e ≡ f
  one_block p q = cc

  block_distinct : (e : ℕ) → Once (block_list g s e)
  unfolding block_list
  block_distinct e = once_push (list_below g.size (λ v. in_block s e v && not (v == e))) e
      (once_below g.size (λ v. in_block s e v && not (v == e)))
      (false_from_ne_true (has (list_below g.size (λ v. in_block s e v && not (v == e))) e) (λ h.
      let r = and_parts (in_block s e e) (not (e == e)) (has_below g.size (λ v. in_block s e v && not (v == e)) e h).1 in
      true≢false (sym (eq-eqb e e refl) ∙ not-true (e == e) r.1)))

  -- no element descends from two trees of a level
  one_tree : {e : ℕ} {rest : List ℕ} (f k : ℕ) → IsLevel s (e ∷ rest) → has rest k ≡ true → Descends s f e → Descends s f k → ⊥
  one_tree {e} {rest} f k l h d d' = elim (two_up g s tree outside_last d d') [
    | inl q ↦ clash (subst (λ m. has rest m ≡ true) (sym q) h) l.distinct.0
    | inr z ↦ elim z [
      | inl p ↦ l.apart e k (has_head e e rest refl) (has_tail k e rest h) p
      | inr p ↦ l.apart k e (has_tail k e rest h) (has_head e e rest refl) p
    ]
  ]

  trees_distinct : {es xs : List ℕ} → IsLevel s es → ListsTrees (assembly_tree g s) es xs → Once xs
  trees_distinct l none = tt
  trees_distinct l (more {e} {rest} {below} {after} t r) =
      let in_after : (u f : ℕ) → s.home u ≡ Gone f → Descends s f e → has after u ≡ true → ⊥ = λ u f hu d h.
      (let k = listed_from g s tree outside_last (tail_level g s tree outside_last l) r u h in
      one_tree f k.0 l k.2 d (subst (λ m. Descends s m k.0) (one_block k.3 hu) k.4)) in
      let he = head_level g s tree outside_last l in
      once_append below (block_list g s e ++ after) (trees_distinct (children_level g s tree outside_last e) t)
      (once_append (block_list g s e) after (block_distinct e) (trees_distinct (tail_level g s tree outside_last l) r)
      (λ u b a. in_after u e (block_rows g s tree outside_last e u he b) self a))
      (λ u h k.
      let c = listed_from g s tree outside_last (children_level g s tree outside_last e) t u h in
      let parent = (child_parent g s tree outside_last e c.0 c.2).1 in
      elim (has_append u (block_list g s e) after k) [
        | inl b ↦ (let q = one_block c.3 (block_rows g s tree outside_last e u he b) in
            let up = rank_up g s tree outside_last (subst (λ m. Descends s m c.0) q c.4) in let later = tree.later c.0 e parent in
            omega (arith, up, later))
        | inr a ↦ in_after u c.1 c.3 (descends_join c.4 (via parent self)) a
      ])

  -- the root of the tree of an element
  record Root (e : ℕ) : Type 0 where
    root : ℕ
    element : s.home root ≡ Gone root
    top : s.parent root ≡ None
    path : Descends s e root

  root_within : (n m e : ℕ) → ((f : ℕ) → s.home f ≡ Gone f → tree.rank f < m) → m ≤ tree.rank e + n → s.home e ≡ Gone e → Root e
  root_within zero m e most l h = absurd (let k = most e h in omega (arith, k))
  root_within (suc n) m e most l h = go (s.parent e) refl (λ f p. let k = tree.later e f p in
      root_within n m f most (omega (arith, k)) (tree.over e f p))
    where
      go : (o : Option ℕ) → s.parent e ≡ o → ((f : ℕ) → s.parent e ≡ Some f → Root f) → Root e
      go None p on = record { root = e; element = h; top = p; path = self }
      go (Some f) p on = let r = on f p in record { root = r.root; element = r.element; top = r.top; path = via p r.path }

  root_of : (e : ℕ) → s.home e ≡ Gone e → Root e
  root_of e h = root_within (suc (sum_below g.size tree.rank)) (suc (sum_below g.size tree.rank)) e
      (λ f hf. let t = term_le_sum g.size tree.rank f (end.small f f hf) in omega (arith, t)) (omega arith) h

  root_listed : (e : ℕ) (r : Root e) → has (roots (assembly_tree g s)) r.root ≡ true
  unfolding roots
  root_listed e r = below_has g.size (λ e. is_element s e && is_none (s.parent e)) r.root (end.small r.root r.root r.element)
      (and_from (is_element s r.root) (is_none (s.parent r.root)) (block_from r.root (s.home r.root) r.element) (ap is_none r.top))

  module _ (p : List ℕ) (post : IsPostorder g dense s p) where
    in_blocks : (v e : ℕ) → s.home v ≡ Gone e → has post.blocks v ≡ true
    in_blocks v e h = let r = root_of e (tree.named v e h) in
        listed g s tree outside_last post.lists v e r.root (root_listed e r) h r.path

    pub each_listed : (v : ℕ) → v < g.size → has p v ≡ true
    each_listed v l = subst (λ xs. has xs v ≡ true) (sym post.is) (go (s.home v) refl)
      where
        go : (h : Home) → s.home v ≡ h → has (post.blocks ++ list_below g.size dense) v ≡ true
        go Last h = has_right v post.blocks (list_below g.size dense) (below_has g.size dense v l (end.made.last_dense v l h))
        go (Live c) h = absurd (true≢false (sym (live_from c (s.home v) h) ∙ end.over v))
        go (Gone e) h = has_left v post.blocks (list_below g.size dense) (in_blocks v e h)

    block_home : (v : ℕ) → has post.blocks v ≡ true → (e : ℕ) × (s.home v ≡ Gone e)
    block_home v h = let r = listed_from g s tree outside_last (roots_level g s tree outside_last) post.lists v h in (r.1, r.3)

    pub listed_small : (v : ℕ) → has p v ≡ true → v < g.size
    listed_small v h = elim (has_append v post.blocks (list_below g.size dense) (subst (λ xs. has xs v ≡ true) post.is h)) [
      | inl b ↦ (let r = block_home v b in end.small v r.0 r.1)
      | inr d ↦ (has_below g.size dense v d).0
    ]

    pub listing_distinct : Once p
    listing_distinct = subst Once (sym post.is) (once_append post.blocks (list_below g.size dense)
        (trees_distinct (roots_level g s tree outside_last) post.lists) (once_below g.size dense)
        (λ u b d. let r = block_home u b in let k = has_below g.size dense u d in let last = end.made.dense_last u k.0 k.1 in
        let gone = r.1 in absurd (cc)))

    pub listing_permutes : ListsEachRow g.size p
    listing_permutes = record {
      places = length_once g.size p listing_distinct listed_small each_listed;
      all = λ v l. let r = place_of p v (each_listed v l) in (r.0, r.1, r.2 v);
    }

pub listings_are_permutations : OfEachListing (λ g dense s p. ListsEachRow g.size p)
listings_are_permutations g dense aggressive first states laws run p post =
    listing_permutes g dense (last_state first states) (at_the_end g dense aggressive first states laws run) p post
