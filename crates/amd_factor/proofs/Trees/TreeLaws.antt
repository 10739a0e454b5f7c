-- The parents of a factor in vectors tell the elimination tree, and its rows are subtrees.
use Rattle.std.proofs.Common.{ℕ, ◌≡◌, ◌<◌, refl, sym, ap, subst, arith, inl, inr, List, [], ◌∷◌, length}
use Rattle.std.specs.Prelude.{◌↔◌, Contains, unsigned_abs, slice_index_or, Option, None}
use Rattle.amd_model.specs.Graph.{Graph, IsGraph}
use Rattle.amd_model.specs.Factor.{IsColumn}
use Rattle.amd_model.specs.Input.Pattern.{graph_of}
use Rattle.amd_model.proofs.Patterns.DegreeSums.{pattern_graph}
use Rattle.amd_model.proofs.Listings.Words.{has_head, has_cases}
use Rattle.amd_model.proofs.Counting.Places.{contains_has, has_contains}
use Rattle.amd_factor.specs.Columns.{first_of, HoldFactor}
use Rattle.amd_factor.specs.Trees.{InSubtree}
use Rattle.amd_factor.proofs.Trees.FactorOnce.{first_least}
use Rattle.amd_factor.proofs.Trees.TreePaths.{rows_are_subtrees}
use Rattle.amd_count_laws.specs.Parts.{part_of}
use Rattle.amd_factor.specs.Laws.{ParentsTellTree, RowsTellSubtrees, TellsParent}
use Rattle.amd_factor.proofs.Trees.Once.{order_once}
use Rattle.amd_factor.proofs.Factors.Vectors.{first_at, parent_at}

module _ (g : Graph) (order ptr rows : List ℕ) (parent : List (Option ℕ)) (f : HoldFactor g order ptr rows parent) where
  inside : (k : ℕ) → k < length order → k < length f.columns
  inside k l = let places = f.factor.places in omega (arith, l, places)

  tells : (k : ℕ) (c : List ℕ) → k < length order → slice_index_or f.columns k [] ≡ c → TellsParent g order ptr rows k (first_of c)
  tells k [] l is = let e = f.holds.ends k [] (inside k l) in let none : length (slice_index_or f.columns k []) ≡ 0 = ap length is in
      omega (arith, e, none)
  tells k (x ∷ xs) l is =
      let column : IsColumn g order k (x ∷ xs) = subst (IsColumn g order k) is (f.factor.each k [] l) in
      let first = first_at f.columns ptr rows parent f.holds k x xs (inside k l) is in (
        first.0,
        first.1,
        record {
          entry = (column.members x).0 (has_contains (x ∷ xs) x (has_head x x xs refl));
          first = λ j e. elim (has_cases j x xs (contains_has (x ∷ xs) j ((column.members j).1 e)))
              [ inl q ↦ omega arith | inr h ↦ (let l = first_least x xs column.rising j h in omega arith) ];
        },
      )

  pub parent_tells : (k : ℕ) → k < length order → TellsParent g order ptr rows k (slice_index_or parent k None)
  parent_tells k l = subst (TellsParent g order ptr rows k) (sym (parent_at f.columns ptr rows parent f.holds k (inside k l)))
      (tells k (slice_index_or f.columns k []) l refl)

  pub row_tells : IsGraph g → (k j : ℕ) → k < j → j < length order → Contains (part_of ptr rows k) j ↔ InSubtree g order j k
  row_tells laws k j l m =
      let low : k < length order = omega (arith, l, m) in
      let column : IsColumn g order k (part_of ptr rows k) =
      subst (IsColumn g order k) (sym (f.holds.each k [] (inside k low))) (f.factor.each k [] low) in
      let rule = rows_are_subtrees g laws order k j l m in
      ((λ h. rule.0 ((column.members j).0 h)), (λ h. (column.members j).1 (rule.1 h)))

pub parents_tell_tree : ParentsTellTree
parents_tell_tree n ap' ai p ptr rows order parent f h k l =
    let g = graph_of (unsigned_abs n) ap' ai in
    let same : f.order ≡ order = order_once (unsigned_abs n) p f.order order f.permutes h in
    parent_tells g order ptr rows parent (subst (λ r. HoldFactor g r ptr rows parent) same f.holds) k
    (let places = h.each.places in omega (arith, l, places))

pub rows_tell_subtrees : RowsTellSubtrees
rows_tell_subtrees n ap' ai p ptr rows order parent f h k j l m =
    let g = graph_of (unsigned_abs n) ap' ai in
    let same : f.order ≡ order = order_once (unsigned_abs n) p f.order order f.permutes h in
    row_tells g order ptr rows parent (subst (λ r. HoldFactor g r ptr rows parent) same f.holds) (pattern_graph (unsigned_abs n) ap' ai) k j
    l (let places = h.each.places in omega (arith, m, places))
