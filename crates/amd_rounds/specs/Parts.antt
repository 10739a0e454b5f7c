-- What the parts of a round do to a workspace, each between the workspace before and after it.
use Rattle.std.specs.Prelude.{ℕ, Bool, true, false, List, ◌≡◌, ◌<◌, ◌≤◌, ◌+◌, ◌-◌, ◌==◌, ◌&&◌, cond, max, nat_lt}
use Rattle.std.specs.Prelude.{length}
use Rattle.std.specs.Prelude.{sum_by, slice_set}
use Rattle.amd_model.specs.Figures.{cut, front_sum, entries, ldl_steps, lu_steps}
use Rattle.amd_model.specs.Quotient.{has}
use Rattle.amd_words.specs.Words.{num, word, place, start, size_of, in_front, flip_of}
use Rattle.amd_elements.specs.Pivots.{built_front, IsBehind}
use Rattle.amd_elements.specs.Room.{Rooms}
use Rattle.amd_lists.specs.Layout.{end_of, elements_in, Layout}
use Rattle.amd_lists.specs.Chains.{DegreeLists, Chooses, without}
use Rattle.amd_elements.specs.Beginning.{Begins}
use Rattle.amd_fronts.specs.Effects.{KeepsOrResets, RenewsFlag}
use Rattle.amd_fronts.specs.Fronts.{renewed_in}
use Rattle.amd_fronts.specs.Tallies.{front_at, LeavesLists}
use Rattle.amd_fronts.specs.Turning.{TurnsFront}
use Rattle.amd_lists.specs.Sizes.{bucket_count}
use Rattle.amd_merging.specs.Classes.{classes_in, lists_in}
use Rattle.amd_merging.specs.FrontLists.{AreOutside, MergesList}
use Rattle.amd_merging.specs.Restoring.{marked_in, bound_in, put_all, Restores}
use Rattle.amd_merging.specs.Closing.{Closes}
use Rattle.amd_lists.specs.Workspaces.{Workspace}
use Rattle.amd_lists.specs.Sizes.{IsSized}

-- the lists by bound of a workspace are these
abbrev pub LinksByBound : ℕ → Workspace → (ℕ → List ℕ) → Type 0
LinksByBound n p lists = DegreeLists n p.head p.next p.last p.degree lists

-- the pivot me was chosen and taken out of its list
pub record Picks (n me : ℕ) (p v : Workspace) : Type 0 where
  pub row : me < n
  pub chosen : (lists : ℕ → List ℕ) → LinksByBound n p lists → Chooses n p.least lists me v.least
  pub linked : (lists : ℕ → List ℕ) → LinksByBound n p lists → LinksByBound n v (λ b. without me (lists b))
  pub sized : IsSized n v
  pub same : v ≡ record p { head = v.head; next = v.next; last = v.last; least = v.least }

-- there is room behind all lists for the new element of the pivot me: the lists were packed, and this was counted, if
-- there was none
pub record MakesRoom (n me : ℕ) (p v : Workspace) : Type 0 where
  pub rooms : Rooms n p v
  pub fits : v.free + length (built_front p me) ≤ length p.iw
  pub packed : v.n_cmp_a ≡ p.n_cmp_a + cond (nat_lt (length p.iw) (p.free + length (built_front p me))) 1 0
  pub same : v ≡ record p { iw = v.iw; pe = v.pe; free = v.free; n_cmp_a = v.n_cmp_a }

-- the pivot me is an element, behind all lists if it listed elements, which it absorbs; `block` and `total` are its
-- number of rows and that of its front
pub record BeginsElement (n me block total : ℕ) (is_built : Bool) (p v : Workspace) : Type 0 where
  pub front : List ℕ
  pub front_is : front ≡ built_front p me
  pub begins : Begins n me (elements_in p.iw p.pe p.e_len me) front total p v
  pub counters : (e : ℕ) → num v.w e ≡ cond (has (elements_in p.iw p.pe p.e_len me) e) 0 (num p.w e)
  pub built_is : is_built ≡ nat_lt 0 (place (word p.e_len me))
  pub before : is_built ≡ true → IsBehind v.pe v.len me
  pub total_is : total ≡ sum_by (size_of p.nv) front
  pub block_is : block ≡ size_of p.nv me
  pub end : v.free ≤ length v.iw
  pub packed : v.n_cmp_a ≡ p.n_cmp_a + cond (is_built && nat_lt (length p.iw) (p.free + length front)) 1 0
  pub sized : IsSized n v
  pub same : v ≡ record p { iw = v.iw; nv = v.nv; pe = v.pe; e_len = v.e_len; len = v.len; w = v.w; free = v.free; n_cmp_a = v.n_cmp_a }

-- the classes of the front of me were turned over to it, with counters that first may have been set anew; all counters
-- come to at most most_cell
pub record TurnsOver (aggressive : Bool) (n me gone most_cell : ℕ) (p v : Workspace) : Type 0 where
  pub first : List ℕ
  pub renews : RenewsFlag most_cell p.flag p.w first v.flag
  pub turns : TurnsFront aggressive n me (record p { w = first; flag = v.flag }) v gone
  pub linked : LeavesLists n (front_at p me) p v
  pub sized : IsSized n v
  pub same : v ≡ record (renewed_in p v) { w = v.w; head = v.head; next = v.next; flag = v.flag }

-- the flag rose by the greatest border so far and was renewed, and then rose by 1 for each list that was spread: for no
-- more of them than the list of the element me has words
pub record RaisesFlag (me border most_cell : ℕ) (p v : Workspace) : Type 0 where
  pub first : List ℕ
  pub flag : ℕ
  pub renewed : KeepsOrResets most_cell (p.flag + max p.most border) p.w first flag
  pub rises : (flag ≤ v.flag) × (v.flag ≤ flag + num p.len me)

-- the rows of the block are no longer live, and the classes of the front that are alike were merged
pub record MergesFront (n me block border : ℕ) (p v : Workspace) : Type 0 where
  pub list : MergesList n (start p.pe me) (num p.len me) (classes_in p) (classes_in v)
  pub under : (x : ℕ) → num v.w x < v.flag
  pub two : 2 ≤ v.flag
  pub zeros : (x : ℕ) → (num v.w x == 0) ≡ (num p.w x == 0)
  pub sized : IsSized n v
  pub same : v ≡ record p {
    pe = v.pe;
    e_len = v.e_len;
    nv = v.nv;
    w = v.w;
    hash = v.hash;
    next = v.next;
    flag = v.flag;
    live = p.live - block;
    most = max p.most border;
  }

-- the classes that are left of the front are placed by their new bounds, and the element me is closed
pub record EndsFront (n me block border : ℕ) (is_built : Bool) (p v : Workspace) : Type 0 where
  pub long : length v.iw ≡ length p.iw
  pub bounds : List ℕ
  pub restores : Restores (front_at p me) border p.live p.least p.nv p.degree v.nv bounds v.least
  pub degrees : v.degree ≡ slice_set bounds me border
  pub closes : Closes n me (in_front p.nv) p.free (lists_in p) (lists_in v)
  pub counts : v.e_len ≡ slice_set p.e_len me (flip_of (block + border))
  pub free_is : v.free ≡ cond is_built (end_of v.pe v.len me) p.free
  pub laid : Layout n v.iw v.pe v.e_len v.len v.free
  pub empty : (b : ℕ) → b < bucket_count n → n ≤ num v.hash b
  pub linked : (lists : ℕ → List ℕ) → ((b : ℕ) → b < n → has (lists b) me ≡ false) → AreOutside n lists (front_at p me) →
      LinksByBound n p lists → LinksByBound n v (put_all (bound_in border p.live p.nv p.degree) (marked_in p.nv (front_at p me)) lists)
  pub lnz : v.figures.lnz ≡ cut (p.figures.lnz + front_sum entries block (border + p.n_dense))
  pub ldl : v.figures.n_mult_subs_ldl ≡ cut (p.figures.n_mult_subs_ldl + front_sum ldl_steps block (border + p.n_dense))
  pub lu : v.figures.n_mult_subs_lu ≡ cut (p.figures.n_mult_subs_lu + front_sum lu_steps block (border + p.n_dense))
  pub greatest : v.figures.d_max ≡ max p.figures.d_max (block + (border + p.n_dense))
  pub sized : IsSized n v
  pub same : v ≡ record v { pe = p.pe; w = p.w; live = p.live; flag = p.flag; most = p.most; n_cmp_a = p.n_cmp_a; n_dense = p.n_dense }
