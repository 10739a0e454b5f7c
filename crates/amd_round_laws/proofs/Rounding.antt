-- What a round of an engine found and wrote, as equations between what its record said before and says after.
use Rattle.std.specs.Prelude.{ℕ, Bool, true, false, Some, List, ◌∷◌, ◌++◌, ◌≡◌, ◌≤◌, ◌<◌, ◌==◌, ◌&&◌, ◌+◌, ◌-◌, not, cond, max, filter}
use Rattle.std.specs.Prelude.{flat_map, sum_by}
use Rattle.amd_model.specs.Figures.{cut, front_sum, entries, ldl_steps, lu_steps}
use Rattle.amd_model.specs.Quotient.{has, last_that, turned}
use Rattle.amd_round_laws.specs.Rounds.{firsts, keeps_nothing, alike_in, Absorbed, IsApart, bound_by_lists}
use Rattle.amd_round_laws.specs.Views.{View, ClassLists, counts_of, live_of}

pub record Rounding (aggressive : Bool) (w v : View) : Type 0 where
  -- the pivot, its front, the classes that are left of it, and their representatives
  pub c : ℕ
  pub front : List ℕ
  pub rest : List ℕ
  pub made : List ℕ
  pub into : ℕ → ℕ
  -- the lists after the absorption, and the rows of elements outside the front
  pub kept : ClassLists
  pub beyond : ℕ → ℕ
  -- the rows of the border and of the block
  pub border : ℕ
  pub block : ℕ
  pub least : ℕ
  pub front_is : front ≡ firsts (λ x. x == c) (flat_map (λ e. live_of w.size (w.members e)) (w.lists.elements c)
      ++ live_of w.size (w.lists.variables c))
  pub absorbed : Absorbed aggressive c front (counts_of w) w.lists kept w.parent v.parent beyond
  pub rest_is : rest ≡ filter (λ i. not (keeps_nothing kept.elements kept.variables i)) front
  pub border_is : border ≡ sum_by w.size rest
  pub block_is : block ≡ w.size c + (sum_by w.size front - border)
  pub into_is : (i : ℕ) → has rest i ≡ true → into i ≡ last_that (alike_in kept.elements kept.variables i) i rest
  pub made_is : made ≡ filter (λ i. into i == i) rest
  -- mass elimination, and then merging
  pub retired : ℕ → ℕ
  pub retired_is : (x : ℕ) → retired x ≡ cond (has front x && keeps_nothing kept.elements kept.variables x) 0 (w.size x)
  pub joined : ℕ → ℕ
  pub joined_is : (x : ℕ) → joined x ≡ cond (has rest x) (cond (into x == x) (sum_by retired (filter (λ j. into j == x) rest)) 0)
      (retired x)
  pub size_is : (x : ℕ) → v.size x ≡ cond (x == c) 0 (joined x)
  pub link_is : (x : ℕ) → v.link x ≡ cond (has rest x && not (into x == x)) (Some (into x))
      (cond (has front x && keeps_nothing kept.elements kept.variables x) (Some c) (w.link x))
  pub live_is : v.live ≡ w.live - block
  -- the bounds and lists of the classes of the new element, and those of the classes that are neither the pivot nor in its front. Of
  -- rows that are no class any more nothing is said: an engine may use their places for other things
  pub bound_is : (i : ℕ) → has made i ≡ true → v.bound i ≡ bound_by_lists border v.live kept beyond v.size w.bound i
  pub bound_stays : (i : ℕ) → IsApart w.size c front i → v.bound i ≡ w.bound i
  pub elements_are : (i : ℕ) → has made i ≡ true → v.lists.elements i ≡ c ∷ turned (kept.elements i)
  pub elements_stay : (i : ℕ) → IsApart w.size c front i → v.lists.elements i ≡ w.lists.elements i
  pub variables_are : (i : ℕ) → has made i ≡ true → v.lists.variables i ≡ turned (kept.variables i)
  pub variables_stay : (i : ℕ) → IsApart w.size c front i → v.lists.variables i ≡ w.lists.variables i
  -- the members of the new element, and those of an element that a class lists and that was not absorbed
  pub members_are : v.members c ≡ made
  pub members_stay : (e i : ℕ) → 0 < w.size i → has (w.lists.elements i) e ≡ true → (e == c) ≡ false → absorbed.taken e ≡ false →
      v.members e ≡ w.members e
  pub least_is : (v.least ≤ least) × ((i : ℕ) → has made i ≡ true → v.least ≤ v.bound i)
  -- the new element
  pub blocks : (e : ℕ) → v.block e ≡ cond (e == c) block (w.block e)
  pub fronts : (e : ℕ) → v.front e ≡ cond (e == c) (block + border) (w.front e)
  pub dense_rows : v.n_dense ≡ w.n_dense
  pub lnz : v.figures.lnz ≡ cut (w.figures.lnz + front_sum entries block (border + w.n_dense))
  pub ldl : v.figures.n_mult_subs_ldl ≡ cut (w.figures.n_mult_subs_ldl + front_sum ldl_steps block (border + w.n_dense))
  pub lu : v.figures.n_mult_subs_lu ≡ cut (w.figures.n_mult_subs_lu + front_sum lu_steps block (border + w.n_dense))
  pub greatest : v.figures.d_max ≡ max w.figures.d_max (block + (border + w.n_dense))
  pub rows : v.rows ≡ w.rows
