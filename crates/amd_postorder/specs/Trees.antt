-- Trees in lists of numbers: by the parent of each element, and by links to a first child and a next sibling; -1 is no
-- place. Source: Amestoy, Davis and Duff 2004.
use Rattle.std.specs.Prelude.{◌≡◌, ◌+◌, ◌<◌, ◌≤◌, ◌≤ℤ◌, ◌⊎◌, ◌&&◌, ◌++◌, ℕ, ℤ, pos, negsuc, Bool, true, false, Option}
use Rattle.std.specs.Prelude.{None, Some, List, []}
use Rattle.std.specs.Prelude.{◌∷◌, cond, nat_lt, nat_le, int_lt, length, slice_index, slice_index_or, unsigned_abs}
use Rattle.amd_model.specs.Below.{list_below}
use Rattle.amd_model.specs.Input.Columns.{at}
use Rattle.amd_model.specs.Listing.{Tree, is_child, heaviest, children, roots, ListsTrees}
use Rattle.amd_model.specs.Quotient.{has, Once}
use Rattle.amd_types.specs.Links.{named}

-- ---- the tree of the elements

-- place e holds an element: its number of rows is above 0
abbrev pub is_tree_element : ℕ → List ℤ → ℕ → Bool
is_tree_element nn nv e = nat_lt e nn && int_lt (pos 0) (at nv e)

-- the elements with their parents, weighed by their sizes
abbrev pub tree_of : ℕ → List ℤ → List ℤ → List ℤ → Tree
tree_of nn parent nv f_size = record {
  size = nn;
  is_node = is_tree_element nn nv;
  parent = λ e. named (at parent e);
  weight =
      λ e. unsigned_abs (at f_size e);
  block = λ e. e ∷ [];
}

-- each element has a size, and as parent an element or -1; a rank that rises from each element to its parent leaves no
-- cycle
pub record IsElementForest (nn : ℕ) (parent nv f_size : List ℤ) : Type 0 where
  pub parent_room : length parent ≡ nn
  pub nv_room : length nv ≡ nn
  pub f_size_room : length f_size ≡ nn
  pub sizes : (e : ℕ) → is_tree_element nn nv e ≡ true → pos 0 ≤ℤ at f_size e
  pub parents : (e : ℕ) → is_tree_element nn nv e ≡ true → (at parent e ≡ negsuc 0)
      ⊎ ((p : ℕ) × (at parent e ≡ pos p) × (is_tree_element nn nv p ≡ true))
  pub rank : ℕ → ℕ
  pub rises : (e p : ℕ) → is_tree_element nn nv e ≡ true → at parent e ≡ pos p → rank e < rank p

-- order holds for each node of a tree its place in the listing in postorder, and -1 for what is no node
pub record IsPostorderOf (t : Tree) (order : List ℤ) : Type 0 where
  pub listing : List ℕ
  pub lists : ListsTrees t (roots t) listing
  pub each : (e : ℕ) → e < t.size → t.is_node e ≡ true → has listing e ≡ true
  pub room : length order ≡ t.size
  pub places : (k : ℕ) → k < length listing → at order (slice_index listing k) ≡ pos k
  pub others : (e : ℕ) → e < t.size → t.is_node e ≡ false → at order e ≡ negsuc 0

-- places holds the listing, place by place, and nothing behind it
pub record IsByPlace (n : ℕ) (listing : List ℕ) (places : List (Option ℕ)) : Type 0 where
  pub room : length places ≡ n
  pub fits : length listing ≤ n
  pub each : (k : ℕ) → k < length listing → slice_index_or places k None ≡ Some (slice_index listing k)
  pub rest : (k : ℕ) → length listing ≤ k → slice_index_or places k None ≡ None

-- ---- links

-- the list that starts at a link, and goes from each node to its next sibling
abbrev pub IsChain : List ℤ → ℤ → List ℕ → Type 0
IsChain sibling first [] = first ≡ negsuc 0
IsChain sibling first (e ∷ rest) = (first ≡ pos e) × IsChain sibling (at sibling e) rest

-- the trees of a link and of the siblings after it, in postorder
pub data ListsLinks (child sibling : List ℤ) : ℤ → List ℕ → Type 0 where
  none : ListsLinks child sibling (negsuc 0) []
  more : {e : ℕ} {below after : List ℕ} → ListsLinks child sibling (at child e) below →
      ListsLinks child sibling (at sibling e) after →
      ListsLinks child sibling (pos e) (below ++ e ∷ after)

-- the nodes of the tree below a root in postorder, each once
pub record ListsTree (child sibling : List ℤ) (root : ℕ) (listing : List ℕ) : Type 0 where
  pub below : List ℕ
  pub lists : ListsLinks child sibling (at child root) below
  pub is : listing ≡ below ++ root ∷ []
  pub once : Once listing

-- a finite tree that fits: its nodes are places of the lists, of sibling only those below the root, and as many as the
-- stack and the numbers from k on allow
pub record FitsTree (child sibling order stack : List ℤ) (root k nn : ℕ) : Type 0 where
  pub listing : List ℕ
  pub tree : ListsTree child sibling root listing
  pub in_child : (e : ℕ) → has listing e ≡ true → e < length child
  pub in_sibling : (e : ℕ) → has tree.below e ≡ true → e < length sibling
  pub in_order : (e : ℕ) → has listing e ≡ true → e < length order
  pub in_stack : length listing ≤ length stack
  pub numbers : k + length listing ≤ nn

-- each place of the listing is numbered, from k on
abbrev pub NumbersFrom : ℕ → List ℕ → List ℤ → Type 0
NumbersFrom k listing order = (i : ℕ) → i < length listing → at order (slice_index listing i) ≡ pos (k + i)

-- what the listing does not name stays
abbrev pub StaysOutside : List ℕ → List ℤ → List ℤ → Type 0
StaysOutside listing old new = (e : ℕ) → has listing e ≡ false → at new e ≡ at old e

-- ---- the children

-- the link to a place, -1 where there is none
abbrev pub link_of : Option ℕ → ℤ
link_of None = negsuc 0
link_of (Some e) = pos e

-- the last one of largest weight of a list
abbrev pub heaviest_of : (ℕ → ℕ) → List ℕ → Option ℕ
heaviest_of w [] = None
heaviest_of w (e ∷ rest) = Some (heaviest w e rest)

-- the heavier one of a node, if there is one, and j; j where they weigh the same
abbrev pub heavier : (ℕ → ℕ) → Option ℕ → ℕ → ℕ
heavier w None j = j
heavier w (Some e) j = cond (nat_le (w e) (w j)) j e

-- no place has a link
pub record AreUnlinked (nn : ℕ) (links : List ℤ) : Type 0 where
  pub room : length links ≡ nn
  pub each : (e : ℕ) → e < nn → at links e ≡ negsuc 0

-- the links from each place to the heaviest of its children below j
pub record AreHeaviest (t : Tree) (j : ℕ) (links : List ℤ) : Type 0 where
  pub room : length links ≡ t.size
  pub each : (e : ℕ) → e < t.size → at links e ≡ link_of (heaviest_of t.weight (list_below j (is_child t e)))

-- child and sibling link the children of each place
pub record AreLinked (t : Tree) (child sibling : List ℤ) : Type 0 where
  pub child_room : length child ≡ t.size
  pub sibling_room : length sibling ≡ t.size
  pub each : (e : ℕ) → e < t.size → IsChain sibling (at child e) (children t e)
