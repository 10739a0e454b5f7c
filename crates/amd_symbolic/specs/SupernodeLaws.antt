-- How the supernodes of a factor lie to the blocks of the assembly tree of an ordering. Source: Liu, Ng and Peyton
-- 1993; Amestoy, Davis and Duff 2004.
use Rattle.std.specs.Prelude.{ℕ, ℤ, Bool, true, pos, ◌≡◌, ◌<◌, ◌+◌, ◌⊎◌, List, Option, length, slice_index}
use Rattle.amd_model.specs.Graph.{Graph}
use Rattle.amd_model.specs.Input.Pattern.{graph_of}
use Rattle.amd_model.specs.Run.{last_state}
use Rattle.amd_model.specs.State.{Gone, Last, State}
use Rattle.amd.specs.Answers.{OrdersMatrix}
use Rattle.amd_types.specs.declared.amd.Control.{Control}
use Rattle.amd_types.specs.declared.amd.Info.{Info}
use Rattle.amd_factor.specs.Supernodes.{IsSupernodesOf}
use Rattle.amd_factor.specs.Trees.{Entry}

-- row v lies in the front of element e: in its block, on its border, or held last
abbrev pub InFront : State → ℕ → ℕ → Type 0
InFront s e v = (s.home v ≡ Gone e) ⊎ (s.border e v ≡ true) ⊎ (s.home v ≡ Last)

-- the front of element e is exact: the columns of its block have all rows of the front that stand behind
abbrev pub IsExactFront : Graph → State → List ℕ → ℕ → Type 0
IsExactFront g s p e = (k j : ℕ) → k < j → j < length p → s.home (slice_index p k) ≡ Gone e →
    InFront s e (slice_index p j) → Entry g p k j

-- no supernode ends between two places, one after the other, of a block whose front is exact
abbrev pub NoneEndsInside : Graph → State → List ℕ → List ℕ → Type 0
NoneEndsInside g s p first = (e k t : ℕ) → IsExactFront g s p e → s.home (slice_index p k) ≡ Gone e →
    s.home (slice_index p (k + 1)) ≡ Gone e → k + 1 < length p → t + 1 < length first →
    ¬ (slice_index first (t + 1) ≡ k + 1)

-- and so under each ordering
abbrev pub ExactBlocksStandInside : Type 0
ExactBlocksStandInside =
    (hold : Option (List Bool)) (n : ℕ) (control : Control) (pair : ℕ → ℕ → Bool) (ap ai p q : List ℤ)
    (info : Info) (first ptr rows : List ℕ) (parent : List (Option ℕ)) →
    (m : OrdersMatrix hold n control pair ap ai p q info) →
    IsSupernodesOf (pos n) ap ai p first ptr rows parent →
    NoneEndsInside (graph_of n ap ai) (last_state m.first m.states) m.rows first
