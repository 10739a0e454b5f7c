-- What the parts of a round do to the lists of an elimination, each as a function of what stood there before.
use Rattle.std.specs.Prelude.{ℕ, Bool, true, false, Option, Some, List, [], ◌≡◌, ◌<◌, ◌==◌, ◌&&◌, ◌||◌, ◌+◌, ◌-◌, not}
use Rattle.std.specs.Prelude.{min, cond, nat_eq}
use Rattle.std.specs.Prelude.{nat_lt, filter, fold, flat_map, sum_by}
use Rattle.amd_model.specs.Figures.{cut}
use Rattle.amd_model.specs.Quotient.{has, each, is_empty, add_new}
use Rattle.amd_round_laws.specs.Views.{ClassLists, RowCounts}

-- the numbers of a list that are not skipped, each at its first occurrence
abbrev pub firsts : (ℕ → Bool) → List ℕ → List ℕ
firsts skip xs = fold (add_new skip) [] xs

-- the class i keeps neither an element nor a variable
abbrev pub keeps_nothing : (ℕ → List ℕ) → (ℕ → List ℕ) → ℕ → Bool
keeps_nothing elements variables i = is_empty (elements i) && is_empty (variables i)

-- two classes keep the same elements and the same variables
abbrev pub alike_in : (ℕ → List ℕ) → (ℕ → List ℕ) → ℕ → ℕ → Bool
alike_in elements variables i j = each (has (elements i)) (elements j) && each (has (elements j)) (elements i)
    && each (has (variables i)) (variables j) && each (has (variables j)) (variables i)

-- a number without the rows of a class, which are taken off each time that a list names the element e
abbrev pub less : ℕ → ℕ → ℕ → List ℕ → ℕ
less e rows b xs = fold (λ m x. cond (x == e) (m - rows) m) b xs

-- the number of rows of the border of e (block and border less the block), less that of each class of a front that
-- lists it
abbrev pub rows_left : (ℕ → ℕ) → (ℕ → ℕ) → (ℕ → ℕ) → (ℕ → List ℕ) → List ℕ → ℕ → ℕ
rows_left block whole size elements front e = fold (λ m i. less e (size i) m (elements i)) (whole e - block e) front

-- the lists of the classes of a front after the new element of the pivot c has absorbed others, where rows are counted
-- so. Of other classes nothing is said
pub record Absorbed (aggressive : Bool) (c : ℕ) (front : List ℕ) (counts : RowCounts) (old new : ClassLists)
    (before after : ℕ → Option ℕ) (beyond : ℕ → ℕ) : Type 0 where
  -- the elements that hold a class of the front and not the pivot
  pub touched : List ℕ
  pub touched_is : touched ≡ firsts (has (old.elements c)) (flat_map old.elements front)
  -- the number of rows of each of them outside the front
  pub counted : (e : ℕ) → has touched e ≡ true →
      beyond e ≡ rows_left counts.block counts.whole counts.size old.elements front e
  -- what is absorbed: the elements of the pivot, and with `aggressive` those with no row outside
  pub taken : ℕ → Bool
  pub taken_is : (e : ℕ) → taken e ≡ (has (old.elements c) e || (has touched e && (aggressive && nat_eq (beyond e) 0)))
  pub parents : (e : ℕ) → after e ≡ cond (taken e) (Some c) (before e)
  -- a class of the front keeps the other elements, and the classes outside
  pub elements : (i : ℕ) → has front i ≡ true → new.elements i ≡ filter (λ e. not (taken e)) (old.elements i)
  pub variables : (i : ℕ) → has front i ≡ true → new.variables i
      ≡ filter (λ j. nat_lt 0 (counts.size j) && not (j == c || has front j)) (old.variables i)

-- the class i is neither the pivot c nor in its front: a round leaves its bound and its lists as they were
pub record IsApart (size : ℕ → ℕ) (c : ℕ) (front : List ℕ) (i : ℕ) : Type 0 where
  pub class : 0 < size i
  pub other : (i == c) ≡ false
  pub outside : has front i ≡ false

-- the lesser of the old bound and the number of rows that the lists reach, plus the other border rows; at most the
-- other live rows
abbrev pub bound_by_lists : ℕ → ℕ → ClassLists → (ℕ → ℕ) → (ℕ → ℕ) → (ℕ → ℕ) → ℕ → ℕ
bound_by_lists border live lists beyond size bound i = min (min (bound i)
    (cut (sum_by beyond (lists.elements i) + sum_by size (lists.variables i))) + (border - size i)) (live - size i)
