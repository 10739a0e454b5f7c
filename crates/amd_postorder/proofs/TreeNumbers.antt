-- The trees of the roots, numbered one after another: links to the children of each node hold its trees.
use Rattle.std.proofs.Common.{Option, ◌≡◌, ◌+◌, ◌-◌, ◌<◌, ◌≤◌, ◌&&◌, inl, inr, ℕ, ℤ, suc, pos, negsuc, true, false, List, [], ◌∷◌, ◌++◌}
use Rattle.std.proofs.Common.{length, refl, sym, ◌∙◌, ap, subst, arith, is_none}
use Rattle.std.specs.Prelude.{slice_index}
use Rattle.std.proofs.lemmas.Bool.{cases_lt, false_from_ne_true, or_parts, and_parts}
use Rattle.std.proofs.lemmas.List.{length-append, get_or_append_left, get_or-append_right}
use Rattle.amd_model.specs.Input.Columns.{at}
use Rattle.amd_model.specs.Listing.{Tree, children, roots, ListsTrees, none as no_trees, more as more_trees}
use Rattle.amd_model.specs.Quotient.{has, Once}
use Rattle.amd_model.proofs.Counting.Below.{clash}
use Rattle.amd_model.proofs.Listings.Words.{has_head, has_left, has_right}
use Rattle.amd_model.proofs.Counting.Places.{has_place, places_differ, below_skip, below_take, below_none}
use Rattle.amd_model.proofs.Counting.Points.{pigeonhole}
use Rattle.amd_model.proofs.Quotient.Lists.{has_append as append_names}
use Rattle.amd_postorder.specs.Trees.{
  is_tree_element,
  tree_of,
  IsElementForest,
  IsChain,
  ListsLinks,
  none,
  more,
  ListsTree,
  FitsTree,
  NumbersFrom,
}
use Rattle.amd_postorder.specs.Trees.{StaysOutside, AreLinked, AreUnlinked, IsPostorderOf}
use Rattle.amd_postorder.proofs.Links.{once_parts, once_back, links_kept, names_some}
use Rattle.amd_postorder.proofs.ChildLinks.{element_small}
use Rattle.amd_postorder.proofs.ForestListings.{
  IsRanked,
  AreSiblings,
  head_node,
  tail_siblings,
  children_siblings,
  roots_below,
  roots_siblings,
}
use Rattle.amd_postorder.proofs.ForestListings.{trees_append, listed_from, trees_distinct, tree_listed, each_node}

-- the tree of the elements is ranked
pub ranked : (nn : ℕ) (parent nv f_size : List ℤ) → IsElementForest nn parent nv f_size → IsRanked (tree_of nn parent nv f_size)
ranked nn parent nv f_size forest = record {
  one = λ e. refl;
  small = λ e n. element_small nn parent nv f_size forest e n;
  over = λ e p n q. (elim (forest.parents e n) [
    | inl none' ↦ absurd (let b : negsuc 0 ≡ pos p = sym none' ∙ names_some (at parent e) p (sym q) in cc)
    | inr some' ↦ subst (λ m. is_tree_element nn nv m ≡ true) (let b : pos some'.0 ≡ pos p = sym some'.1 ∙ names_some (at parent e)
        p (sym q) in
        let s : some'.0 ≡ p = cc in s) some'.2
  ]);
  rank = forest.rank;
  rises = λ e p n q. forest.rises e p n (names_some (at parent e) p (sym q));
}

-- the listing of the trees of a chain of nodes
links_from : (t : Tree) (g : IsRanked t) (child sibling : List ℤ) →
    ((e : ℕ) → t.is_node e ≡ true → IsChain sibling (at child e) (children t e)) →
    {es xs : List ℕ} {o : Option ℕ} → AreSiblings t o es → ListsTrees t es xs → (z : ℤ) → IsChain sibling z es →
    ListsLinks child sibling z xs
links_from t g child sibling f s no_trees z c = subst (λ y. ListsLinks child sibling y []) (sym c) none
links_from t g child sibling f s (more_trees {e} {rest} {below} {after} a r) z c =
    subst (λ b. ListsLinks child sibling z (below ++ (b ++ after))) (sym (g.one e))
    (subst (λ y. ListsLinks child sibling y (below ++ e ∷ after)) (sym c.0)
    (more (links_from t g child sibling f (children_siblings t e) a (at child e) (f e (head_node s).0))
    (links_from t g child sibling f (tail_siblings s) r (at sibling e) c.1)))

-- what a longer list does not name, its parts do not
outside : (xs ys : List ℕ) (u : ℕ) → has (xs ++ ys) u ≡ false → (has xs u ≡ false) × (has ys u ≡ false)
outside xs ys u h = or_parts (has xs u) (has ys u) (sym (append_names xs ys u) ∙ h)

-- the trees of the roots below j are numbered
pub record AreNumbered (t : Tree) (j : ℕ) (child_before child order : List ℤ) (next : ℕ) : Type 0 where
  pub done : List ℕ
  pub lists : ListsTrees t (roots_below t j) done
  pub count : next ≡ length done
  pub places : (i : ℕ) → i < length done → at order (slice_index done i) ≡ pos i
  pub others : (e : ℕ) → e < t.size → has done e ≡ false → at order e ≡ negsuc 0
  pub stays : StaysOutside done child_before child

pub numbers_start : (t : Tree) (child order : List ℤ) → AreUnlinked t.size order → AreNumbered t 0 child child order 0
numbers_start t child order u = record {
  done = [];
  lists = subst (λ es. ListsTrees t es []) (sym (below_none (λ e. t.is_node e && is_none (t.parent e)))) no_trees;
  count = refl;
  places = λ i l. absurd (omega arith);
  others = λ e l h. u.each e l;
  stays = λ e h. refl;
}

-- a place that is no root
pub numbers_skip : (t : Tree) (j : ℕ) (child_before child order : List ℤ) (next : ℕ) → AreNumbered t j child_before child order next →
    (t.is_node j && is_none (t.parent j)) ≡ false → AreNumbered t (suc j) child_before child order next
numbers_skip t j child_before child order next a off = record {
  done = a.done;
  lists = subst (λ es. ListsTrees t es a.done) (sym (below_skip j (λ e. t.is_node e && is_none (t.parent e)) off)) a.lists;
  count = a.count;
  places = a.places;
  others = a.others;
  stays = a.stays;
}

module _ (t : Tree) (g : IsRanked t) where
  -- numbers below a bound, each once, are no more than the bound
  few : {o : Option ℕ} {es xs : List ℕ} → AreSiblings t o es → ListsTrees t es xs → length xs ≤ t.size
  few {xs = xs} s l = pigeonhole t.size (length xs) (slice_index xs)
      (λ k m. g.small (slice_index xs k) (listed_from t g s l (slice_index xs k) (has_place xs k m)).2)
      (λ i k m n. places_differ xs (trees_distinct t g s l) i k m n)

  pub numbers_end : (child_before child order : List ℤ) (next : ℕ) → AreNumbered t t.size child_before child order next →
      length order ≡ t.size → IsPostorderOf t order
  unfolding roots
  numbers_end child_before child order next a room = record {
    listing = a.done;
    lists = a.lists;
    each = λ e l n. each_node t g a.lists e n;
    room = room;
    places = a.places;
    others = λ e l n. a.others e l
        (false_from_ne_true (has a.done e) (λ h. clash (listed_from t g (roots_siblings t t.size) a.lists e h).2 n));
  }

  module _ (child_before sibling : List ℤ) (linked : AreLinked t child_before sibling) (j : ℕ)
      (root : (t.is_node j && is_none (t.parent j)) ≡ true)
      (child order : List ℤ) (next : ℕ) (a : AreNumbered t j child_before child order next) where
    -- the nodes of the tree of the root j
    tree : List ℕ
    tree = (tree_listed t g j).0 ++ j ∷ []

    lists_more : ListsTrees t (roots_below t (suc j)) (a.done ++ tree)
    unfolding tree
    lists_more =
        let below = tree_listed t g j in
        let here : ListsTrees t (j ∷ []) (below.0 ++ j ∷ []) =
        subst (λ b. ListsTrees t (j ∷ []) (below.0 ++ (b ++ []))) (g.one j)
        (more_trees {e = j} {rest = []} {below = below.0} {after = []} below.1 no_trees) in
        subst (λ es. ListsTrees t es (a.done ++ (below.0 ++ j ∷ []))) (sym (below_take j (λ e. t.is_node e && is_none (t.parent e)) root))
        (trees_append a.lists here)

    once_more : Once (a.done ++ tree)
    once_more = trees_distinct t g (roots_siblings t (suc j)) lists_more

    not_done : (u : ℕ) → has tree u ≡ true → has a.done u ≡ false
    not_done u h = false_from_ne_true (has a.done u) (λ k. clash h (once_parts a.done tree once_more u k))

    tree_small : (u : ℕ) → has tree u ≡ true → u < t.size
    tree_small u h = g.small u (listed_from t g (roots_siblings t (suc j)) lists_more u (has_right u a.done tree h)).2

    -- its links are as they were
    tree_linked : ListsTree child sibling j tree
    unfolding tree
    tree_linked =
        let below = tree_listed t g j in
        let node : t.is_node j ≡ true = (and_parts (t.is_node j) (is_none (t.parent j)) root).0 in
        let same : (v : ℕ) → has tree v ≡ true → at child v ≡ at child_before v = λ v h. a.stays v (not_done v h) in
        let before : ListsLinks child_before sibling (at child_before j) below.0 =
        links_from t g child_before sibling (λ e n. linked.each e (g.small e n)) (children_siblings t j) below.1 (at child_before j)
        (linked.each j (g.small j node)) in
        record {
          below = below.0;
          lists = subst (λ z. ListsLinks child sibling z below.0) (sym (same j (has_right j below.0 (j ∷ []) (has_head j j [] refl))))
              (links_kept before (λ v h. same v (has_left v below.0 (j ∷ []) h)));
          is = refl;
          once = once_back a.done (below.0 ++ j ∷ []) once_more;
        }

    pub fits : (stack : List ℤ) → length child ≡ t.size → length order ≡ t.size → length stack ≡ t.size →
        FitsTree child sibling order stack j next t.size
    fits stack child_room order_room stack_room =
        let all = few (roots_siblings t (suc j)) lists_more in
        let joined = length-append a.done tree in let count = a.count in let sibling_room = linked.sibling_room in
        record {
          listing = tree;
          tree = tree_linked;
          in_child = λ e h. (let l = tree_small e h in omega (arith, l, child_room));
          in_sibling = λ e h. (let l =
              tree_small e (subst (λ m. has m e ≡ true) (sym tree_linked.is) (has_left e tree_linked.below (j ∷ []) h)) in
              omega (arith, l, sibling_room));
          in_order = λ e h. (let l = tree_small e h in omega (arith, l, order_room));
          in_stack = omega (arith, all, joined, stack_room);
          numbers = omega (arith, all, joined, count);
        }

    -- and one tree more is numbered
    pub numbers_take : (child' order' : List ℤ) (next' : ℕ) →
        ((listing : List ℕ) → ListsTree child sibling j listing → next' ≡ next + length listing) →
        ((listing : List ℕ) → ListsTree child sibling j listing → NumbersFrom next listing order') →
        ((listing : List ℕ) → ListsTree child sibling j listing → StaysOutside listing order order') →
        ((listing : List ℕ) → ListsTree child sibling j listing → StaysOutside listing child child') →
        AreNumbered t (suc j) child_before child' order' next'
    numbers_take child' order' next' counted numbered order_stays child_stays =
        let count = a.count in let count' = counted tree tree_linked in let joined = length-append a.done tree in
        record {
          done = a.done ++ tree;
          lists = lists_more;
          count = omega (arith, count, count', joined);
          places = λ i l. (elim (cases_lt i (length a.done)) [
            | inl m ↦ (
                let at_i : slice_index (a.done ++ tree) i ≡ slice_index a.done i = get_or_append_left a.done tree 0 i m in
                ap (at order') at_i ∙ order_stays tree tree_linked (slice_index a.done i)
                (once_parts a.done tree once_more (slice_index a.done i) (has_place a.done i m)) ∙ a.places i m)
            | inr m ↦ (
                let at_i : slice_index (a.done ++ tree) i ≡ slice_index tree (i - length a.done) =
                get_or-append_right a.done tree (length a.done) i 0 refl m in
                ap (at order') at_i ∙ numbered tree tree_linked (i - length a.done) (omega (arith, l, m, joined)) ∙
                ap pos (omega (arith, count, m)))
          ]);
          others = λ e l h. (let r = outside a.done tree e h in order_stays tree tree_linked e r.1 ∙ a.others e l r.0);
          stays = λ e h. (let r = outside a.done tree e h in child_stays tree tree_linked e r.1 ∙ a.stays e r.0);
        }
