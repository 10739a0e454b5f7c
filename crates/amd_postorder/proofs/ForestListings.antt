-- Listings of trees whose nodes have ranks that rise upwards: each tree has one, and it names its nodes, each once.
use Rattle.std.proofs.Common.{Bool, Option, None, Some, ◌≡◌, ◌+◌, ◌<◌, ◌≤◌, ◌&&◌, ◌⊎◌, inl, inr, ℕ, zero, suc, true, List, [], ◌∷◌, ◌++◌}
use Rattle.std.proofs.Common.{refl, sym, ◌∙◌, ap, subst, arith, is_none}
use Rattle.std.proofs.lemmas.Bool.{false_from_ne_true, false≢true, and_parts, and_from, eqb-true, eq-eqb}
use Rattle.std.proofs.lemmas.List.{append_assoc}
use Rattle.amd_model.specs.Below.{list_below, sum_below}
use Rattle.amd_model.specs.Listing.{Tree, is_some_of, is_child, children, roots, ListsTrees, none, more}
use Rattle.amd_model.specs.Quotient.{has, Once}
use Rattle.amd_model.proofs.Counting.Below.{clash, term_le_sum}
use Rattle.amd_model.proofs.Listings.Words.{has_head, has_tail, has_none, has_cases, has_append, has_left, has_right, has_below, below_has}
use Rattle.amd_model.proofs.Listings.Words.{has_moved, moved_has, distinct_moved}
use Rattle.amd_model.proofs.Listings.ListingsExist.{each_listed}
use Rattle.amd_model.proofs.Quotient.Lists.{once_append}
use Rattle.amd_model.proofs.Quotient.Start.{once_below}

-- one node in each block, below the size; parents are nodes of a higher rank
pub record IsRanked (t : Tree) : Type 0 where
  pub one : (e : ℕ) → t.block e ≡ e ∷ []
  pub small : (e : ℕ) → t.is_node e ≡ true → e < t.size
  pub over : (e p : ℕ) → t.is_node e ≡ true → t.parent e ≡ Some p → t.is_node p ≡ true
  pub rank : ℕ → ℕ
  pub rises : (e p : ℕ) → t.is_node e ≡ true → t.parent e ≡ Some p → rank e < rank p

-- a path of parents leads from one node to the other
pub data IsUnder (t : Tree) : ℕ → ℕ → Type 0 where
  self : {e : ℕ} → IsUnder t e e
  via : {e m f : ℕ} → t.parent e ≡ Some m → IsUnder t m f → IsUnder t e f

-- nodes with the same parent, each once
pub record AreSiblings (t : Tree) (parent : Option ℕ) (es : List ℕ) : Type 0 where
  pub distinct : Once es
  pub nodes : (k : ℕ) → has es k ≡ true → t.is_node k ≡ true
  pub parents : (k : ℕ) → has es k ≡ true → t.parent k ≡ parent

pub head_node : {t : Tree} {parent : Option ℕ} {e : ℕ} {rest : List ℕ} → AreSiblings t parent (e ∷ rest) →
    (t.is_node e ≡ true) × (t.parent e ≡ parent)
head_node {e = e} {rest = rest} s = (s.nodes e (has_head e e rest refl), s.parents e (has_head e e rest refl))

pub tail_siblings : {t : Tree} {parent : Option ℕ} {e : ℕ} {rest : List ℕ} → AreSiblings t parent (e ∷ rest) → AreSiblings t parent rest
tail_siblings {e = e} {rest = rest} s = record {
  distinct = s.distinct.1;
  nodes = λ k h. s.nodes k (has_tail k e rest h);
  parents =
      λ k h. s.parents k (has_tail k e rest h);
}

-- the test of a child, taken and given
pub child_node : (t : Tree) (e k : ℕ) → is_child t e k ≡ true → (t.is_node k ≡ true) × (t.parent k ≡ Some e)
unfolding is_child is_some_of
child_node t e k h = let r = and_parts (t.is_node k) (is_some_of e (t.parent k)) h in (r.0, some (t.parent k) r.1)
  where
    some : (o : Option ℕ) → is_some_of e o ≡ true → o ≡ Some e
    some None q = absurd (false≢true q)
    some (Some x) q = ap Some (eqb-true x e q)

pub node_child : (t : Tree) (e k : ℕ) → t.is_node k ≡ true → t.parent k ≡ Some e → is_child t e k ≡ true
unfolding is_child is_some_of
node_child t e k h q = and_from (t.is_node k) (is_some_of e (t.parent k)) h (ap (is_some_of e) q ∙ eq-eqb e e refl)

pub children_siblings : (t : Tree) (e : ℕ) → AreSiblings t (Some e) (children t e)
unfolding children
children_siblings t e = record {
  distinct = distinct_moved t.weight (list_below t.size (is_child t e)) (once_below t.size (is_child t e));
  nodes = λ k h. (child_node t e k (has_below t.size (is_child t e) k (has_moved t.weight (list_below t.size (is_child t e)) k h)).1).0;
  parents = λ k h. (child_node t e k (has_below t.size (is_child t e) k (has_moved t.weight (list_below t.size (is_child t e)) k h)).1).1;
}

-- the roots below a number
abbrev pub roots_below : Tree → ℕ → List ℕ
roots_below t j = list_below j (λ e. t.is_node e && is_none (t.parent e))

none_is : (o : Option ℕ) → is_none o ≡ true → o ≡ None
none_is None h = refl
none_is (Some x) h = absurd (false≢true h)

pub roots_siblings : (t : Tree) (j : ℕ) → AreSiblings t None (roots_below t j)
roots_siblings t j = let test : ℕ → Bool = λ e. t.is_node e && is_none (t.parent e) in record {
  distinct = once_below j test;
  nodes = λ k h. (and_parts (t.is_node k) (is_none (t.parent k)) (has_below j test k h).1).0;
  parents = λ k h. none_is (t.parent k) (and_parts (t.is_node k) (is_none (t.parent k)) (has_below j test k h).1).1;
}

-- two listings one after another
pub trees_append : {t : Tree} {es fs xs ys : List ℕ} → ListsTrees t es xs → ListsTrees t fs ys → ListsTrees t (es ++ fs) (xs ++ ys)
trees_append none b = b
trees_append {t = t} {fs = fs} {ys = ys} (more {e} {rest} {below} {after} a r) b =
    subst (ListsTrees t (e ∷ (rest ++ fs))) (ap (λ m. below ++ m) (sym (append_assoc (t.block e) after ys)) ∙
    sym (append_assoc below (t.block e ++ after) ys))
    (more {e = e} {rest = rest ++ fs} {below = below} {after = after ++ ys} a (trees_append r b))

module _ (t : Tree) (g : IsRanked t) where
  under_join : {a b c : ℕ} → IsUnder t a b → IsUnder t b c → IsUnder t a c
  under_join self d = d
  under_join (via p r) d = via p (under_join r d)

  rank_up : {a b : ℕ} → t.is_node a ≡ true → IsUnder t a b → g.rank a ≤ g.rank b
  rank_up n self = omega arith
  rank_up n (via {e} {m} p r) = let k = g.rises e m n p in let up = rank_up (g.over e m n p) r in omega (arith, k, up)

  two_up : {u a b : ℕ} → IsUnder t u a → IsUnder t u b → IsUnder t a b ⊎ IsUnder t b a
  two_up self d = inl d
  two_up (via p r) self = inr (via p r)
  two_up {b = b} (via {m = m} p r) (via {m = k} q s) = two_up r (subst (λ x. IsUnder t x b) (let w : k ≡ m = cc in w) s)

  -- of two siblings none is below the other
  apart : {o : Option ℕ} {a b : ℕ} → t.is_node b ≡ true → t.is_node a ≡ true → t.parent a ≡ o → t.parent b ≡ o → IsUnder t a b → a ≡ b
  apart nb na qa qb self = refl
  apart {b = b} nb na qa qb (via {e} {m} p r) = absurd (
      let q : t.parent b ≡ Some m = qb ∙ sym qa ∙ p in
      let up = rank_up (g.over e m na p) r in let later = g.rises b m nb q in omega (arith, up, later))

  -- what is listed is a node under one of the nodes whose trees are
  pub listed_from : {es xs : List ℕ} {o : Option ℕ} → AreSiblings t o es → ListsTrees t es xs → (u : ℕ) → has xs u ≡ true →
      (k : ℕ) × (has es k ≡ true) × (t.is_node u ≡ true) × IsUnder t u k
  listed_from s none u h = absurd (has_none u h)
  listed_from s (more {e} {rest} {below} {after} a r) u h = elim
      (has_append u below (e ∷ after) (subst (λ b. has (below ++ (b ++ after)) u ≡ true) (g.one e) h)) [
        | inl b ↦ (let k = listed_from (children_siblings t e) a u b in
            (e, has_head e e rest refl, k.2, under_join k.3 (via ((children_siblings t e).parents k.0 k.1) self)))
        | inr b ↦ elim (has_cases u e after b) [
          | inl q ↦ (
            e,
            has_head e e rest refl,
            subst (λ v. t.is_node v ≡ true) (sym q) (head_node s).0,
            subst (λ v. IsUnder t v e) (sym q) self,
          )
          | inr c ↦ (let k = listed_from (tail_siblings s) r u c in (k.0, has_tail k.0 e rest k.1, k.2, k.3))
        ]
      ]

  -- a listing names no node twice
  pub trees_distinct : {es xs : List ℕ} {o : Option ℕ} → AreSiblings t o es → ListsTrees t es xs → Once xs
  trees_distinct s none = tt
  trees_distinct s (more {e} {rest} {below} {after} a r) =
      let head = head_node s in
      let not_after : (u : ℕ) → has after u ≡ true → IsUnder t u e → ⊥ = λ u h d. (
      let k = listed_from (tail_siblings s) r u h in
      let there = (tail_siblings s).nodes k.0 k.1 in let same = (tail_siblings s).parents k.0 k.1 in
      let q : e ≡ k.0 = elim (two_up d k.3) [ inl x ↦ apart there head.0 head.1 same x | inr x ↦ sym (apart head.0 there same head.1 x) ] in
      clash (subst (λ v. has rest v ≡ true) (sym q) k.1) s.distinct.0) in
      subst (λ b. Once (below ++ (b ++ after))) (sym (g.one e))
      (once_append below (e ∷ after) (trees_distinct (children_siblings t e) a)
      (false_from_ne_true (has after e) (λ h. not_after e h self), trees_distinct (tail_siblings s) r)
      (λ u b c. (
      let k = listed_from (children_siblings t e) a u b in
      let parent = (children_siblings t e).parents k.0 k.1 in let node = (children_siblings t e).nodes k.0 k.1 in
      elim (has_cases u e after c) [
        | inl q ↦ (let up = rank_up k.2 k.3 in let same = ap g.rank q in let later = g.rises k.0 e node parent in
            omega (arith, up, later, same))
        | inr d ↦ not_after u d (under_join k.3 (via parent self))
      ])))

  -- children have lower ranks than their parent, so that nodes of ranks below n have listings
  listed_within : (n : ℕ) (es : List ℕ) → ((e : ℕ) → has es e ≡ true → g.rank e < n) → (xs : List ℕ) × ListsTrees t es xs
  listed_within zero es low = each_listed t es (λ e h. absurd (let k = low e h in omega (arith, k)))
  listed_within (suc n) es low = each_listed t es (λ e h. listed_within n (children t e) (λ k i. (
      let s = children_siblings t e in let later = g.rises k e (s.nodes k i) (s.parents k i) in let m = low e h in
      omega (arith, later, m))))

  -- the trees below a node have a listing
  pub tree_listed : (e : ℕ) → (xs : List ℕ) × ListsTrees t (children t e) xs
  tree_listed e = listed_within (g.rank e) (children t e) (λ k h. let s = children_siblings t e in
      g.rises k e (s.nodes k h) (s.parents k h))

  -- the last step of a path upwards
  from_last : {u e : ℕ} → t.is_node u ≡ true → IsUnder t u e →
      (u ≡ e) ⊎ ((k : ℕ) × (t.is_node k ≡ true) × (t.parent k ≡ Some e) × IsUnder t u k)
  from_last n self = inl refl
  from_last n (via {e = a} {m = m} p r) = elim (from_last (g.over a m n p) r) [
    | inl q ↦ inr (a, n, p ∙ ap Some q, self)
    | inr k ↦ inr (k.0, k.1, k.2, via p k.3)
  ]

  -- what is under one of the nodes is listed
  pub listed : {es xs : List ℕ} → ListsTrees t es xs → (u k : ℕ) → has es k ≡ true → t.is_node u ≡ true → IsUnder t u k → has xs u ≡ true
  unfolding children
  listed none u k h n d = absurd (has_none k h)
  listed (more {e} {rest} {below} {after} a r) u k h n d = subst (λ b. has (below ++ (b ++ after)) u ≡ true) (sym (g.one e))
      (elim (has_cases k e rest h) [
        | inl q ↦ elim (from_last n (subst (IsUnder t u) q d)) [
          | inl s ↦ has_right u below (e ∷ after) (has_head u e after s)
          | inr c ↦ has_left u below (e ∷ after) (listed a u c.0
              (moved_has t.weight (list_below t.size (is_child t e)) c.0
              (below_has t.size (is_child t e) c.0 (g.small c.0 c.1) (node_child t e c.0 c.1 c.2))) n c.3)
        ]
        | inr q ↦ has_right u below (e ∷ after) (has_tail u e after (listed r u k q n d))
      ])

  -- a path upwards from each node ends at a root
  root_within : (n m u : ℕ) → ((f : ℕ) → t.is_node f ≡ true → g.rank f < m) → m ≤ g.rank u + n → t.is_node u ≡ true →
      (k : ℕ) × (t.is_node k ≡ true) × (t.parent k ≡ None) × IsUnder t u k
  root_within zero m u most l h = absurd (let k = most u h in omega (arith, k))
  root_within (suc n) m u most l h = go (t.parent u) refl (λ f q. let later = g.rises u f h q in
      root_within n m f most (omega (arith, later)) (g.over u f h q))
    where
      go : (o : Option ℕ) → t.parent u ≡ o → ((f : ℕ) → t.parent u ≡ Some f → (k : ℕ) × (t.is_node k ≡ true) × (t.parent k ≡ None)
          × IsUnder t f k) →
          (k : ℕ) × (t.is_node k ≡ true) × (t.parent k ≡ None) × IsUnder t u k
      go None q on = (u, h, q, self)
      go (Some f) q on = let r = on f q in (r.0, r.1, r.2, via q r.3)

  -- a listing of the roots names each node
  pub each_node : {xs : List ℕ} → ListsTrees t (roots t) xs → (u : ℕ) → t.is_node u ≡ true → has xs u ≡ true
  unfolding roots
  each_node l u n =
      let most : (f : ℕ) → t.is_node f ≡ true → g.rank f < suc (sum_below t.size g.rank) =
      λ f h. (let k = term_le_sum t.size g.rank f (g.small f h) in omega (arith, k)) in
      let r = root_within (suc (sum_below t.size g.rank)) (suc (sum_below t.size g.rank)) u most (omega arith) n in
      listed l u r.0 (below_has t.size (λ e. t.is_node e && is_none (t.parent e)) r.0 (g.small r.0 r.1)
      (and_from (t.is_node r.0) (is_none (t.parent r.0)) r.1 (ap is_none r.2))) n r.3
