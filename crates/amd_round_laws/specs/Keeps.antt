-- The record of an engine keeps the lists of an elimination, and stands for a state of it. In what order it keeps the
-- classes of a bound is not said here: engines differ in it.
use Rattle.std.specs.Prelude.{ℕ, Bool, true, false, Option, None, Some, ◌≡◌, ◌<◌, ◌≤◌, ◌⊎◌, sum_by}
use Rattle.amd_model.specs.Below.{count_below}
use Rattle.amd_model.specs.Graph.{Graph, IsGraph, degree}
use Rattle.amd_model.specs.State.{State, Home, Last, Live, Gone, in_block, is_element, live}
use Rattle.amd_model.specs.Figures.{figure, entries, ldl_steps, lu_steps, greatest_front, cut}
use Rattle.amd_model.specs.Listing.{weight}
use Rattle.amd_model.specs.Sound.{IsSound}
use Rattle.amd_model.specs.Quotient.{QuotientGraph, Fits, has, is_empty}
use Rattle.amd_round_laws.specs.Views.{View, live_of}

-- following the links of rows that were merged or mass-eliminated comes to an end: the rank rises with each, and what
-- has no link has the greatest
pub record LinksEnd (n : ℕ) (links : ℕ → Option ℕ) (rank : ℕ → ℕ) (top : ℕ) : Type 0 where
  pub rise : (v u : ℕ) → links v ≡ Some u → (rank v < rank u) × (u < n)
  pub ends : (v : ℕ) → links v ≡ None → rank v ≡ top
  pub below : (v u : ℕ) → links v ≡ Some u → rank v < top

-- a linked row is where its target is; exactly the representatives, the pivot rows and the rows held last have no link;
-- links end
pub record LinksLead (n : ℕ) (links : ℕ → Option ℕ) (home : ℕ → Home) : Type 0 where
  pub linked : (v u : ℕ) → links v ≡ Some u → home v ≡ home u
  pub alone : (v : ℕ) → links v ≡ None → (home v ≡ Live v) ⊎ (home v ≡ Gone v) ⊎ (home v ≡ Last)
  pub free : (v : ℕ) → (home v ≡ Live v) ⊎ (home v ≡ Gone v) → links v ≡ None
  pub last : (v : ℕ) → home v ≡ Last → links v ≡ None
  pub rank : ℕ → ℕ
  pub top : ℕ
  pub end : LinksEnd n links rank top

-- the lists of the record, entries that name no class aside, are those of the elimination
pub record Keeps (w : View) (t : QuotientGraph) : Type 0 where
  pub size : (i : ℕ) → has t.placed i ≡ true → w.size i ≡ t.size i
  pub no_class : (i : ℕ) → has t.placed i ≡ false → w.size i ≡ 0
  pub bound : (i : ℕ) → has t.placed i ≡ true → w.bound i ≡ t.bound i
  pub small : (i : ℕ) → has t.placed i ≡ true → w.bound i < w.rows
  pub variables : (i : ℕ) → has t.placed i ≡ true → live_of w.size (w.lists.variables i) ≡ t.variables i
  pub elements : (i : ℕ) → has t.placed i ≡ true → w.lists.elements i ≡ t.elements i
  pub members : (e : ℕ) → is_empty (t.members e) ≡ false → live_of w.size (w.members e) ≡ t.members e
  pub least : (i : ℕ) → has t.placed i ≡ true → w.least ≤ t.bound i
  pub live : w.live ≡ sum_by t.size t.placed
  pub parents : (e : ℕ) → w.parent e ≡ t.parent e
  pub links : LinksLead w.rows w.link t.home

-- the number of rows of each block, and of block and border together; that of the dense rows; and the figures so far
pub record KeepsFronts (g : Graph) (dense : ℕ → Bool) (w : View) (s : State) : Type 0 where
  pub blocks : (e : ℕ) → is_element s e ≡ true → w.block e ≡ count_below g.size (in_block s e)
  pub no_element : (e : ℕ) → is_element s e ≡ false → w.block e ≡ 0
  pub fronts : (e : ℕ) → is_element s e ≡ true → w.front e ≡ weight g s e
  pub dense_rows : w.n_dense ≡ count_below g.size dense
  pub lnz : w.figures.lnz ≡ cut (figure entries g dense s)
  pub ldl : w.figures.n_mult_subs_ldl ≡ cut (figure ldl_steps g dense s)
  pub lu : w.figures.n_mult_subs_lu ≡ cut (figure lu_steps g dense s)
  pub greatest : w.figures.d_max ≡ greatest_front g dense s

-- the record keeps the lists t, which stand for the sound state s of an elimination of the graph
pub record ViewStands (g : Graph) (dense : ℕ → Bool) (w : View) (t : QuotientGraph) (s : State) : Type 0 where
  pub graph : IsGraph g
  pub sound : IsSound g s
  pub fits : Fits g t s
  pub rows : w.rows ≡ g.size
  pub keeps : Keeps w t
  -- each live row has an edge, and no parent
  pub joined : (v : ℕ) → live s v ≡ true → 0 < degree g v
  pub no_parent : (v : ℕ) → live s v ≡ true → s.parent v ≡ None
  pub fronts : KeepsFronts g dense w s
