-- Trees listed in postorder, and the listing of the assembly tree. Source: Amestoy, Davis and Duff 2004; George and Liu
-- 1981.
use Rattle.std.specs.Prelude.{ℕ, Bool, false, Option, None, Some, ◌≡◌, ◌<◌, ◌==◌, ◌+◌, ◌&&◌, not, is_none, cond, nat_le}
use Rattle.std.specs.Prelude.{List, [], ◌∷◌}
use Rattle.std.specs.Prelude.{◌++◌, filter, length, Contains}
use Rattle.amd_model.specs.Below.{count_below, list_below}
use Rattle.amd_model.specs.Graph.{Graph}
use Rattle.amd_model.specs.State.{State, in_block, is_element}

-- nodes below a size, each with a parent or none, a weight, and a block: what stands at the node
pub record Tree : Type 0 where
  pub size : ℕ
  pub is_node : ℕ → Bool
  pub parent : ℕ → Option ℕ
  pub weight : ℕ → ℕ
  pub block : ℕ → List ℕ

-- there is a value, and it is e
unfoldable pub is_some_of : ℕ → Option ℕ → Bool
is_some_of e None = false
is_some_of e (Some p) = p == e

-- k is a child of e
unfoldable pub is_child : Tree → ℕ → ℕ → Bool
is_child t e k = t.is_node k && is_some_of e (t.parent k)

-- the last one of largest weight of e and the list
unfoldable pub heaviest : (ℕ → ℕ) → ℕ → List ℕ → ℕ
heaviest w e [] = e
heaviest w e (k ∷ rest) = heaviest w (cond (nat_le (w e) (w k)) k e) rest

-- the list, with the last one of largest weight moved to the end
unfoldable pub heaviest_last : (ℕ → ℕ) → List ℕ → List ℕ
heaviest_last w [] = []
heaviest_last w (k ∷ rest) = let h = heaviest w k rest in filter (λ x. not (x == h)) (k ∷ rest) ++ h ∷ []

-- the children of a node, rising, but the last one of largest weight at the end
unfoldable pub children : Tree → ℕ → List ℕ
children t e = heaviest_last t.weight (list_below t.size (is_child t e))

-- the nodes with no parent, rising
unfoldable pub roots : Tree → List ℕ
roots t = list_below t.size (λ e. t.is_node e && is_none (t.parent e))

-- several subtrees listed one after another: that of the first one's children, its block, and then those of the others
pub data ListsTrees (t : Tree) : List ℕ → List ℕ → Type 0 where
  none : ListsTrees t [] []
  more : {e : ℕ} {rest below after : List ℕ} → ListsTrees t (children t e) below → ListsTrees t rest after →
      ListsTrees t (e ∷ rest) (below ++ (t.block e ++ after))

-- the rows of a block, rising, and then its pivot row
unfoldable pub block_list : Graph → State → ℕ → List ℕ
block_list g s e = list_below g.size (λ v. in_block s e v && not (v == e)) ++ e ∷ []

-- the number of rows in an element's block and on its border
unfoldable pub weight : Graph → State → ℕ → ℕ
weight g s e = count_below g.size (in_block s e) + count_below g.size (s.border e)

-- the assembly tree: its nodes are the elements
abbrev pub assembly_tree : Graph → State → Tree
assembly_tree g s = record {
  size = g.size;
  is_node = is_element s;
  parent = s.parent;
  weight = weight g s;
  block =
      block_list g s;
}

-- p lists the blocks of the assembly tree in postorder, and then the dense rows
pub record IsPostorder (g : Graph) (dense : ℕ → Bool) (s : State) (p : List ℕ) : Type 0 where
  pub blocks : List ℕ
  pub lists : ListsTrees (assembly_tree g s) (roots (assembly_tree g s)) blocks
  pub is : p ≡ blocks ++ list_below g.size dense

-- p names each number below n, and has n places: a permutation of the rows
pub record ListsEachRow (n : ℕ) (p : List ℕ) : Type 0 where
  pub places : length p ≡ n
  pub all : (v : ℕ) → v < n → Contains p v
