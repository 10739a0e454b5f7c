-- What the parts of a round ask of the workspace before them, beside its lengths and the widths of its words.
use Rattle.std.specs.Prelude.{ℕ, Bool, true, false, ◌≡◌, ◌<◌, ◌≤◌, ◌+◌, ◌^◌, max, length, sum_by}
use Rattle.amd_model.specs.Quotient.{has, Once}
use Rattle.amd_words.specs.Words.{num, size_of, classes}
use Rattle.amd_elements.specs.Pivots.{built_front, IsBehind}
use Rattle.amd_lists.specs.Layout.{elements_in, Layout}
use Rattle.amd_fronts.specs.Tallies.{front_at, IsPart}
use Rattle.amd_fronts.specs.TurningLists.{AreTurning, IsFrontList}
use Rattle.amd_lists.specs.Sizes.{bucket_count}
use Rattle.amd_merging.specs.Classes.{classes_in}
use Rattle.amd_merging.specs.Merging.{AreRenewed}
use Rattle.amd_merging.specs.FrontLists.{AreHeads, CanPlace, HasListsByBound}
use Rattle.amd_merging.specs.Restoring.{marked_in}
use Rattle.amd_lists.specs.Workspaces.{Workspace}

-- a class can become an element: it lists no element twice, and not itself
pub record CanBegin (n me : ℕ) (p : Workspace) : Type 0 where
  pub row : me < n
  pub class : 0 < size_of p.nv me
  pub once : Once (elements_in p.iw p.pe p.e_len me)
  pub apart : has (elements_in p.iw p.pe p.e_len me) me ≡ false
  pub few : sum_by (size_of p.nv) (built_front p me) ≤ n

-- the list of the element me stands before the free end and names each row once, and not me
pub record HasFront (n me : ℕ) (p : Workspace) : Type 0 where
  pub row : me < n
  pub laid : Layout n p.iw p.pe p.e_len p.len p.free
  pub end : p.free ≤ length p.iw
  pub list : IsFrontList me p

-- the classes of the front of me can be turned over to it
pub record CanTurn (n me : ℕ) (p : Workspace) : Type 0 where
  pub front : HasFront n me p
  pub classes : AreTurning n me p
  pub few : sum_by (size_of p.nv) (front_at p me) ≤ n
  pub two : 2 ≤ p.flag
  pub under : (e : ℕ) → num p.w e < p.flag
  pub degrees : (e : ℕ) → num p.degree e ≤ n
  pub part : IsPart (front_at p me) p

-- the classes that are left of the front of me can be merged, where counters are below the flag and the greatest border
-- together
pub record CanMerge (n me block border most_cell : ℕ) (p : Workspace) : Type 0 where
  pub front : HasFront n me p
  pub renewed : AreRenewed n (classes_in p) (classes p.nv (front_at p me))
  pub two : 2 ≤ p.flag
  pub under : (x : ℕ) → num p.w x < p.flag + max p.most border
  pub room : p.flag + n ≤ most_cell
  pub most : (border ≤ n) × (p.most ≤ n)
  pub live : block ≤ p.live
  pub empty : (b : ℕ) → b < bucket_count n → n ≤ num p.hash b

-- the classes that are left of the front of me can be placed, and the element can be closed
pub record CanEnd (n me block border : ℕ) (is_built : Bool) (p : Workspace) : Type 0 where
  pub front : HasFront n me p
  pub classes : CanPlace n border p.nv p.degree p.last (front_at p me)
  pub order : (border ≤ p.live) × (p.live + block ≤ n)
  pub heads : AreHeads n (num p.len me) (marked_in p.nv (front_at p me)) p.hash p.last
  pub linked : HasListsByBound n (front_at p me) p.head p.next p.last p.degree
  pub dense : block + (border + p.n_dense) < 2 ^ 64
  pub before : is_built ≡ true → IsBehind p.pe p.len me
