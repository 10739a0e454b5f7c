-- The postorder of a tree whose parents stand behind, column by column.
use Rattle.std.proofs.Common.{ℕ, ℤ, pos, negsuc, true, ◌≡◌, ◌<◌, ◌≤◌, ◌∷◌, inl, inr, refl, sym, ◌∙◌, ap, subst, arith}
use Rattle.std.proofs.Common.{[], ◌+◌, ◌++◌, take, List, Option, None, Some, length, map, replicate}
use Rattle.std.specs.Prelude.{◌≤ℤ◌, ◌⊎◌, slice_index, slice_index_or, nat_lt, int_lt, unsigned_abs}
use Rattle.std.proofs.lemmas.Bool.{cases_eq, and_parts, and_from, lt-ltb, ltb-true}
use Rattle.std.proofs.lemmas.List.{ext_get_or, map-append, take_all, take_more, get_or-map, get_or-replicate, length-map, length-replicate}
use Rattle.amd_model.specs.Input.Columns.{at}
use Rattle.amd_types.specs.Naturals.{naturals}
use Rattle.amd_model.specs.Listing.{ListsTrees, roots}
use Rattle.amd_model.specs.Quotient.{has}
use Rattle.amd_model.proofs.Counting.Places.{has_contains, has_place, length_once}
use Rattle.amd_postorder.specs.Trees.{IsElementForest, IsPostorderOf, is_tree_element, link_of, tree_of}
use Rattle.amd_postorder.proofs.ForestListings.{listed_from, roots_siblings, trees_distinct}
use Rattle.amd_postorder.proofs.TreeNumbers.{ranked}
use Rattle.amd_command.specs.Postorders.{AreBehind, IsPostorder, forest_of}
use Rattle.amd_factor.specs.Places.{ArePlaces}

-- the links of the first k columns, and the parents of those stand behind
pub record AreLinksUpTo (parents : List (Option ℕ)) (k : ℕ) (links : List ℤ) : Type 0 where
  pub links_are : links ≡ map link_of (take k parents)
  pub behind : (j q : ℕ) → j < k → slice_index_or parents j None ≡ Some q → (j < q) × (q < length parents)

-- one column more
pub links-next : (parents : List (Option ℕ)) (k : ℕ) (old new : List ℤ) (link : ℤ) → k < length parents → AreLinksUpTo parents k old →
    new ≡ old ++ link ∷ [] → link ≡ link_of (slice_index_or parents k None) →
    ((q : ℕ) → slice_index_or parents k None ≡ Some q → (k < q) × (q < length parents)) → AreLinksUpTo parents (k + 1) new
links-next parents k old new link l so_far pushed is here = record {
  links_are = pushed ∙ ap (λ z. old ++ z ∷ []) is ∙ ap (λ z. z ++ link_of (slice_index_or parents k None) ∷ []) so_far.links_are
      ∙ sym (ap (map link_of) (take_more parents k None l) ∙ map-append link_of (take k parents) (slice_index_or parents k None ∷ []));
  behind = λ j q m e. elim (cases_eq j k) [
    | inl same ↦ subst (λ i. (i < q) × (q < length parents)) (sym same) (here q (ap (λ i. slice_index_or parents i None) (sym same) ∙ e))
    | inr ne ↦ so_far.behind j q (omega (arith, m, ne)) e
  ];
}

-- all columns
pub links-all : (parents : List (Option ℕ)) (k : ℕ) (links : List ℤ) → AreLinksUpTo parents k links → length parents ≤ k →
    links ≡ map link_of parents
links-all parents k made so_far l = so_far.links_are ∙ ap (map link_of) (take_all k parents l)

pub behind-all : (parents : List (Option ℕ)) (k : ℕ) (links : List ℤ) → AreLinksUpTo parents k links → length parents ≤ k → AreBehind
    parents
behind-all parents k made so_far l = λ j q m e. so_far.behind j q (omega (arith, m, l)) e

-- a link that names a place is that of a parent
link_some : (o : Option ℕ) (p : ℕ) → link_of o ≡ pos p → o ≡ Some p
link_some None p q = absurd (let x : negsuc 0 ≡ pos p = q in cc)
link_some (Some e) p q = let x : pos e ≡ pos p = q in ap Some (let y : e ≡ p = cc in y)

module _ (parents : List (Option ℕ)) (behind : AreBehind parents) where
  abbrev n : ℕ
  n = length parents

  abbrev links : List ℤ
  links = map link_of parents

  abbrev ones : List ℤ
  ones = replicate n (pos 1)

  abbrev zeros : List ℤ
  zeros = replicate n (pos 0)

  pub element : (k : ℕ) → k < n → is_tree_element n ones k ≡ true
  element k l = and_from (nat_lt k n) (int_lt (pos 0) (at ones k)) (lt-ltb k n l)
      (ap (int_lt (pos 0)) (get_or-replicate n k (pos 1) (pos 0) l))

  inside : (k : ℕ) → is_tree_element n ones k ≡ true → k < n
  inside k h = ltb-true k n (and_parts (nat_lt k n) (int_lt (pos 0) (at ones k)) h).0

  link-at : (k : ℕ) → k < n → at links k ≡ link_of (slice_index_or parents k None)
  link-at k l = get_or-map link_of parents k None (pos 0) l

  zero-at : (k : ℕ) → k < n → at zeros k ≡ pos 0
  zero-at k l = get_or-replicate n k (pos 0) (pos 0) l

  parent-of : (k p : ℕ) → k < n → at links k ≡ pos p → slice_index_or parents k None ≡ Some p
  parent-of k p l q = link_some (slice_index_or parents k None) p (sym (link-at k l) ∙ q)

  parent-at : (o : Option ℕ) (k : ℕ) → k < n → slice_index_or parents k None ≡ o →
      (at links k ≡ negsuc 0) ⊎ ((p : ℕ) × (at links k ≡ pos p) × (is_tree_element n ones p ≡ true))
  parent-at None k l q = inl (link-at k l ∙ ap link_of q)
  parent-at (Some p) k l q = inr (p, link-at k l ∙ ap link_of q, element p (behind k p l q).1)

  pub forest : IsElementForest (length parents) (map link_of parents) (replicate (length parents) (pos 1)) (replicate (length parents)
      (pos 0))
  forest = record {
    parent_room = length-map parents link_of;
    nv_room = length-replicate n (pos 1);
    f_size_room = length-replicate n (pos 0);
    sizes = λ e h. subst (λ z. pos 0 ≤ℤ z) (sym (zero-at e (inside e h))) (let x : pos 0 ≤ℤ pos 0 = omega arith in x);
    parents = λ e h. parent-at (slice_index_or parents e None) e (inside e h) refl;
    rank = λ k. k;
    rises = λ e p h q. (behind e p (inside e h) (parent-of e p (inside e h) q)).0;
  }

  module _ (order : List ℤ) (rows columns : List ℕ) (o : IsPostorderOf (forest_of parents) order) (turned : ArePlaces n rows columns)
      (rows_are : (e : ℕ) → e < n → slice_index rows e ≡ unsigned_abs (at order e)) where
    node : (e : ℕ) → has o.listing e ≡ true → e < n
    unfolding roots
    node e h = inside e (listed_from (forest_of parents) (ranked n links ones zeros forest) (roots_siblings (forest_of parents) n)
        o.lists e h).2

    small : (k : ℕ) → k < length o.listing → slice_index o.listing k < n
    small k l = node (slice_index o.listing k) (has_place o.listing k l)

    full : length o.listing ≡ n
    unfolding roots
    full = length_once n o.listing (trees_distinct (forest_of parents) (ranked n links ones zeros forest) (roots_siblings (forest_of
        parents) n) o.lists)
        node (λ u l. o.each u l (element u l))

    row-at : (k : ℕ) → k < length o.listing → slice_index rows (slice_index o.listing k) ≡ k
    row-at k l = rows_are (slice_index o.listing k) (small k l) ∙ ap unsigned_abs (o.places k l)

    column-at : (k : ℕ) → k < length o.listing → slice_index columns k ≡ slice_index o.listing k
    column-at k l = ap (slice_index columns) (sym (row-at k l)) ∙ turned.each (slice_index o.listing k) (small k l)

    same : o.listing ≡ columns
    same = ext_get_or 0 o.listing columns (full ∙ sym turned.room) (λ k l. sym (column-at k l))

    pub posted : IsPostorder parents columns
    posted = record {
      lists = subst (λ xs. ListsTrees (forest_of parents) (roots (forest_of parents)) xs) same o.lists;
      each = record {
        places = turned.room;
        all = λ v l. has_contains columns v (subst (λ xs. has xs v ≡ true) same (o.each v l (element v l)));
      };
    }

-- the lists of the tree, as they are handed on
pub record AreHanded (parents : List (Option ℕ)) (links rows sizes : List ℤ) : Type 0 where
  pub links_are : links ≡ map link_of parents
  pub rows_are : rows ≡ replicate (length parents) (pos 1)
  pub sizes_are : sizes ≡ replicate (length parents) (pos 0)

pub forest-handed : (parents : List (Option ℕ)) (links rows sizes : List ℤ) → AreBehind parents → AreHanded parents links rows sizes →
    IsElementForest (length parents) links rows sizes
forest-handed parents links rows sizes behind h = rw (h.links_are, h.rows_are, h.sizes_are) (forest parents behind)

pub posted-handed : (parents : List (Option ℕ)) (links rows sizes order : List ℤ) → AreHanded parents links rows sizes →
    IsPostorderOf (tree_of (length parents) links rows sizes) order → IsPostorderOf (forest_of parents) order
posted-handed parents _ rows sizes order h o =
    subst (λ zs. IsPostorderOf (tree_of (length parents) (map link_of parents) (replicate (length parents) (pos 1)) zs) order) h.sizes_are
    (subst (λ zs. IsPostorderOf (tree_of (length parents) (map link_of parents) zs sizes) order) h.rows_are
    (subst (λ zs. IsPostorderOf (tree_of (length parents) zs rows sizes) order) h.links_are o))

-- the columns at the places of the order, which are counted from a list of numbers that say the same
pub posted-of : (parents : List (Option ℕ)) (order given : List ℤ) (columns : List ℕ) (value : ℤ → ℤ) → ((z : ℤ) → value z ≡ z) →
    given ≡ order → AreBehind parents → IsPostorderOf (forest_of parents) order →
    ArePlaces (length parents) (naturals (map value given)) columns → IsPostorder parents columns
posted-of parents order given columns value same is behind o turned =
    let room : length given ≡ length parents = ap length is ∙ o.room in
    posted parents behind order (naturals (map value given)) columns o turned (λ e l.
    get_or-map unsigned_abs (map value given) e (pos 0) 0 (let a = length-map given value in omega (arith, l, a, room))
    ∙ ap unsigned_abs (get_or-map value given e (pos 0) (pos 0) (omega (arith, l, room)) ∙ same (at given e) ∙ ap (λ zs. at zs e) is))
