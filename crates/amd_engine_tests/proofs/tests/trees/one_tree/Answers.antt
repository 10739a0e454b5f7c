-- The listing of the tree, from its links.
use Rattle.std.proofs.Common.{◌≡◌, ◌<◌, ℕ, true, [], ◌∷◌, refl, arith}
use Rattle.std.specs.Prelude.{nat_lt}
use Rattle.std.proofs.lemmas.Bool.{ltb-true}
use Rattle.amd_model.specs.Quotient.{has, each, Once}
use Rattle.amd_model.proofs.Quotient.Lists.{each_gives}
use Rattle.amd_postorder.specs.Trees.{none, more}
use Rattle.amd_engine_tests.proofs.tests.trees.one_tree.Goals as goal

-- the nodes are below 7
small : (e : ℕ) → has (0 ∷ 1 ∷ 3 ∷ 2 ∷ 5 ∷ []) e ≡ true → e < 7
unfolding each
small e h = ltb-true e 7 (each_gives (λ x. nat_lt x 7) (0 ∷ 1 ∷ 3 ∷ 2 ∷ 5 ∷ []) refl e h)

-- those below the root are below 4
below_small : (e : ℕ) → has (0 ∷ 1 ∷ 3 ∷ 2 ∷ []) e ≡ true → e < 4
unfolding each
below_small e h = ltb-true e 4 (each_gives (λ x. nat_lt x 4) (0 ∷ 1 ∷ 3 ∷ 2 ∷ []) refl e h)

-- each stands once
once : Once (0 ∷ 1 ∷ 3 ∷ 2 ∷ 5 ∷ [])
unfolding has
once = (refl, (refl, (refl, (refl, (refl, tt)))))

pub post_tree-next-requires-clause-fits : goal.post_tree-next-requires-clause-fits
post_tree-next-requires-clause-fits g c = record {
  listing = 0 ∷ 1 ∷ 3 ∷ 2 ∷ 5 ∷ [];
  tree = record {
    below = 0 ∷ 1 ∷ 3 ∷ 2 ∷ [];
    lists = more {e = 0} {below = []} none
        (more {e = 1} {below = []} none (more {e = 3} {below = []} none (more {e = 2} {below = []} {after = []} none none)));
    is = refl;
    once = once;
  };
  in_child = small;
  in_sibling = below_small;
  in_order = small;
  in_stack = omega arith;
  numbers = omega arith;
}
