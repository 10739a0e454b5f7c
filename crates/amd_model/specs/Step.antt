-- One step of the elimination, as a relation: any class of least bound may be the pivot, and any class that goes into a
-- merged one may represent it. In comments c is the pivot, L its front, P the block and S the border of the new
-- element, and others are the elements that stand beside it. Source: Amestoy, Davis and Duff 1996 and 2004 (absorption,
-- mass elimination, approximate degree).
use Rattle.std.specs.Prelude.{ℕ, Bool, true, false, None, Some, ◌==◌, ◌&&◌, ◌||◌, not, ◌≡◌, ◌≤◌, ◌<◌, ◌+◌, ◌-◌, min}
use Rattle.std.specs.Prelude.{cond}
use Rattle.amd_model.specs.Below.{any_below, count_below, sum_below}
use Rattle.amd_model.specs.Graph.{Graph}
use Rattle.amd_model.specs.State.{State, Live, Gone, live, in_class, is_class, stands, inside, holds, neighbours, front}

-- The parts of a step from the state s with the pivot c.

-- the elements that the new one absorbs: those that hold c and, if aggressive, those whose border lies inside the front
-- of c
unfoldable pub absorbed : Graph → Bool → State → ℕ → ℕ → Bool
absorbed g aggressive s c e = holds g s e c || (aggressive && stands g s e && inside g (s.border e) (front g s c))

-- the others: the elements that still stand beside the new one
unfoldable pub other : Graph → Bool → State → ℕ → ℕ → Bool
other g aggressive s c e = stands g s e && not (absorbed g aggressive s c e)

-- the class d has the class x as a direct neighbour outside L and c
unfoldable pub outer : Graph → State → ℕ → ℕ → ℕ → Bool
outer g s c d x = neighbours g s d x && not (front g s c x) && not (x == c)

-- a class of L that no other element holds, and that has no direct neighbour outside L and c
unfoldable pub mass : Graph → Bool → State → ℕ → ℕ → Bool
mass g aggressive s c d = is_class s d && front g s c d
    && not (any_below g.size (λ e. other g aggressive s c e && holds g s e d)) && not (any_below g.size (outer g s c d))

-- P: the rows of c and of the mass-eliminated classes
unfoldable pub block : Graph → Bool → State → ℕ → ℕ → Bool
block g aggressive s c v = in_class s c v || any_below g.size (λ d. mass g aggressive s c d && in_class s d v)

-- S: the other rows of L
unfoldable pub border_of : Graph → Bool → State → ℕ → ℕ → Bool
border_of g aggressive s c v = front g s c v && not (block g aggressive s c v)

-- two classes that the same others hold and that have the same direct neighbours outside L and c
pub record Alike (g : Graph) (aggressive : Bool) (s : State) (c x y : ℕ) : Type 0 where
  pub same_elements : (e : ℕ) → e < g.size → other g aggressive s c e ≡ true → holds g s e x ≡ holds g s e y
  pub same_neighbours : (z : ℕ) → z < g.size → outer g s c x z ≡ outer g s c y z

-- the number of rows of the border of e outside L
unfoldable pub beyond : Graph → State → ℕ → ℕ → ℕ
beyond g s c e = count_below g.size (λ v. s.border e v && not (front g s c v))

-- of the class i of the new state: the number of rows outside L of the border of each other that holds it, summed up,
-- plus the number of rows of its direct neighbours outside L and c
unfoldable pub outside : Graph → Bool → State → State → ℕ → ℕ → ℕ
outside g aggressive old new c i =
    sum_below g.size (λ e. cond (other g aggressive old c e && holds g new e i) (beyond g old c e) 0)
    + count_below g.size (λ v. any_below g.size (λ d. outer g old c i d && in_class old d v))

-- min(min(old bound, outside) + |S| - |class|, rows still live - |class|)
unfoldable pub new_bound : Graph → Bool → State → State → ℕ → ℕ → ℕ
new_bound g aggressive old new c i =
    min (min (old.bound i) (outside g aggressive old new c i) + (
    count_below g.size (border_of g aggressive old c) - count_below g.size (in_class new i)))
    (count_below g.size (live new) - count_below g.size (in_class new i))

-- the state new comes from old by a step with the pivot c
pub record StepAt (g : Graph) (aggressive : Bool) (c : ℕ) (old new : State) : Type 0 where
  -- c is a class of least bound
  pub class : is_class old c ≡ true
  pub least : (d : ℕ) → is_class old d ≡ true → old.bound c ≤ old.bound d
  -- the block is eliminated, and what is outside L and c stays
  pub gone : (v : ℕ) → block g aggressive old c v ≡ true → new.home v ≡ Gone c
  pub kept : (v : ℕ) → in_class old c v ≡ false → front g old c v ≡ false → new.home v ≡ old.home v
  -- each row of S goes to a class that was one of S, and is alike to the one that it was in
  pub moved : (v x : ℕ) → border_of g aggressive old c v ≡ true → in_class old x v ≡ true →
      (i : ℕ) × (new.home v ≡ Live i) × (new.home i ≡ Live i) × (old.home i ≡ Live i) ×
      (border_of g aggressive old c i ≡ true)
      × Alike g aggressive old c x i
  -- classes of S that are alike become one
  pub merged : (x y : ℕ) → is_class old x ≡ true → is_class old y ≡ true → border_of g aggressive old c x ≡ true →
      border_of g aggressive old c y ≡ true →
      Alike g aggressive old c x y → new.home x ≡ new.home y
  -- the new element, and what it absorbs
  pub made : (v : ℕ) → new.border c v ≡ border_of g aggressive old c v
  pub root : new.parent c ≡ None
  pub taken : (e : ℕ) → absorbed g aggressive old c e ≡ true → new.parent e ≡ Some c
  pub border_stays : (e v : ℕ) → (e ≡ c → ⊥) → new.border e v ≡ old.border e v
  pub parent_stays : (e : ℕ) → (e ≡ c → ⊥) → absorbed g aggressive old c e ≡ false → new.parent e ≡ old.parent e
  -- the new bounds
  pub bounds : (i : ℕ) → is_class new i ≡ true → border_of g aggressive old c i ≡ true →
      new.bound i ≡ new_bound g aggressive old new c i
  pub bound_stays : (i : ℕ) → is_class new i ≡ true → border_of g aggressive old c i ≡ false → new.bound i ≡ old.bound i

-- a step with some pivot
abbrev pub Step : Graph → Bool → State → State → Type 0
Step g aggressive old new = (c : ℕ) × StepAt g aggressive c old new
