-- The three parts of a round of the plain engine, each between the record before and after it.
use Rattle.std.specs.Prelude.{ℕ, Bool, true, Some, List, ◌∷◌, ◌++◌, ◌≡◌, ◌≤◌, ◌⊎◌, ◌==◌, ◌&&◌, ◌+◌, ◌-◌, not, cond, max}
use Rattle.std.specs.Prelude.{length, filter}
use Rattle.std.specs.Prelude.{flat_map, sum_by}
use Rattle.amd_model.specs.Figures.{cut, front_sum, entries, ldl_steps, lu_steps}
use Rattle.amd_model.specs.Quotient.{has, last_that, turned}
use Rattle.amd_plain.specs.Views.{num, some_at, list_at, plain_live}
use Rattle.amd_plain.specs.ListsByBound.{Chosen}
use Rattle.amd_plain.specs.Rounds.{firsts, plain_mass, plain_alike, plain_counts, PlainAbsorbed, plain_bound}
use Rattle.amd_plain.specs.Keeps.{IsPlainSized}
use Rattle.amd_plain.specs.declared.work.PlainWork.{PlainWork}

-- what a part of a round leaves as it was: the sizes, bounds and links of rows, and the number of live rows
pub record KeepsRows {A : Type 0} (w v : PlainWork A) : Type 0 where
  pub size : v.size ≡ w.size
  pub bound : v.bound ≡ w.bound
  pub link : v.link ≡ w.link
  pub live : v.live ≡ w.live

-- a part of a round leaves the numbers of the elements, the number of dense rows and the figures as they were
pub record KeepsElements {A : Type 0} (w v : PlainWork A) : Type 0 where
  pub block : v.block ≡ w.block
  pub front : v.front ≡ w.front
  pub n_dense : v.n_dense ≡ w.n_dense
  pub figures : v.figures ≡ w.figures

-- the pivot c is taken out of its list, its front is gathered, and elements are absorbed
pub record MakesPlainElement {A : Type 0} (aggressive : Bool) (c : ℕ) (front : List ℕ) (w v : PlainWork A) : Type 0 where
  pub chosen : Chosen w.size.items w.bound.items w.placed.items v.placed.items w.least v.least c
  pub front_is : front ≡ firsts (λ x. x == c) (flat_map (λ e. plain_live w.size.items (list_at w.lists.members.items e))
      (list_at w.lists.elements.items c) ++ plain_live w.size.items (list_at w.lists.variables.items c))
  pub absorbed : PlainAbsorbed aggressive c front (plain_counts w.size.items w.block.items w.front.items) w.lists v.lists
      w.parent.items v.parent.items v.scratch.beyond.items
  pub rows : KeepsRows w v
  pub elements : KeepsElements w v
  pub sized : IsPlainSized (length w.size.items) v

-- the pivot and what keeps nothing are eliminated, and classes alike become one
pub record MergesPlainClasses {A : Type 0} (c : ℕ) (front made : List ℕ) (border block : ℕ) (w v : PlainWork A) : Type 0 where
  pub rest : List ℕ
  pub rest_is : rest ≡ filter (λ i. not (plain_mass w.lists.elements.items w.lists.variables.items i)) front
  pub border_is : border ≡ sum_by (num w.size.items) rest
  pub block_is : block ≡ num w.size.items c + (sum_by (num w.size.items) front - border)
  pub into_is : (i : ℕ) → has rest i ≡ true → num v.scratch.into.items i ≡ last_that
      (plain_alike w.lists.elements.items w.lists.variables.items i) i rest
  pub made_is : made ≡ filter (λ i. num v.scratch.into.items i == i) rest
  pub retired : List ℕ
  pub retired_is : (x : ℕ) → num retired x ≡ cond (has front x && plain_mass w.lists.elements.items w.lists.variables.items x)
      0
      (num w.size.items x)
  pub joined : List ℕ
  pub joined_is : (x : ℕ) → num joined x ≡ cond (has rest x)
      (cond (num v.scratch.into.items x == x) (sum_by (num retired)
      (filter (λ j. num v.scratch.into.items j == x) rest)) 0) (num retired x)
  pub size_is : (x : ℕ) → num v.size.items x ≡ cond (x == c) 0 (num joined x)
  pub link_is : (x : ℕ) → some_at v.link.items x ≡ cond (has rest x && not (num v.scratch.into.items x == x))
      (Some (num v.scratch.into.items x))
      (cond (has front x && plain_mass w.lists.elements.items w.lists.variables.items x) (Some c) (some_at w.link.items x))
  pub live_is : v.live ≡ w.live - block
  pub lists : v.lists ≡ w.lists
  pub bound : v.bound ≡ w.bound
  pub placed : v.placed ≡ w.placed
  pub least : v.least ≡ w.least
  pub parent : v.parent ≡ w.parent
  pub beyond : v.scratch.beyond ≡ w.scratch.beyond
  pub elements : KeepsElements w v
  pub sized : IsPlainSized (length w.size.items) v

-- the classes of the new element c have their new bounds and lists, and are placed
pub record RenewsClasses {A : Type 0} (c : ℕ) (made : List ℕ) (border block : ℕ) (w v : PlainWork A) : Type 0 where
  pub bound_is : (i : ℕ) → num v.bound.items i ≡ cond (has made i)
      (plain_bound border w.live w.lists w.scratch.beyond.items w.size.items w.bound.items i) (num w.bound.items i)
  pub elements_is : (i : ℕ) → list_at v.lists.elements.items i ≡ cond (has made i)
      (c ∷ turned (list_at w.lists.elements.items i))
      (list_at w.lists.elements.items i)
  pub variables_is : (i : ℕ) → list_at v.lists.variables.items i ≡ cond (has made i)
      (turned (list_at w.lists.variables.items i))
      (list_at w.lists.variables.items i)
  pub members_is : (e : ℕ) → list_at v.lists.members.items e ≡ cond (e == c) made (list_at w.lists.members.items e)
  pub placed_is : (b : ℕ) → list_at v.placed.items b ≡ list_at w.placed.items b ++ filter
      (λ i. num v.bound.items i == b) made
  pub least_is : (v.least ≤ w.least) × ((i : ℕ) → has made i ≡ true → v.least ≤ num v.bound.items i)
  pub least_one : (v.least ≡ w.least) ⊎ ((i : ℕ) × (has made i ≡ true) × (v.least ≡ num v.bound.items i))
  pub blocks : (e : ℕ) → num v.block.items e ≡ cond (e == c) block (num w.block.items e)
  pub fronts : (e : ℕ) → num v.front.items e ≡ cond (e == c) (block + border) (num w.front.items e)
  pub lnz : v.figures.lnz ≡ cut (w.figures.lnz + front_sum entries block (border + w.n_dense))
  pub ldl : v.figures.n_mult_subs_ldl ≡ cut (w.figures.n_mult_subs_ldl + front_sum ldl_steps block (border + w.n_dense))
  pub lu : v.figures.n_mult_subs_lu ≡ cut (w.figures.n_mult_subs_lu + front_sum lu_steps block (border + w.n_dense))
  pub greatest : v.figures.d_max ≡ max w.figures.d_max (block + (border + w.n_dense))
  pub size : v.size ≡ w.size
  pub link : v.link ≡ w.link
  pub live : v.live ≡ w.live
  pub parent : v.parent ≡ w.parent
  pub dense_rows : v.n_dense ≡ w.n_dense
  pub sized : IsPlainSized (length w.size.items) v
