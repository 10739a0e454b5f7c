-- What the parts of making an element leave behind, each between what it found and what it left.
use Rattle.std.specs.Prelude.{ℕ, ℤ, [], List, ◌≡◌, ◌≤◌, ◌&&◌, ◌==◌, not, cond}
use Rattle.std.specs.Prelude.{length, sum_by}
use Rattle.amd_model.specs.Quotient.{has}
use Rattle.amd_words.specs.Words.{num, word, size_of, in_front, flip_of, rows}
use Rattle.amd_lists.specs.Layout.{elements_in}
use Rattle.amd_lists.specs.Workspaces.{Workspace}
use Rattle.amd_elements.specs.Beginning.{Begins}
use Rattle.amd_elements.specs.Pivots.{own_front, built_front, IsBehind}
use Rattle.amd_elements.specs.declared.beginning.Begun.{Begun}

-- the pivot me has left the front, and its rows
pub record TakesPivot (me : ℕ) (nv nv' : List ℤ) : Type 0 where
  pub long : length nv' ≡ length nv
  pub sizes : (j : ℕ) → size_of nv' j ≡ cond (j == me) 0 (size_of nv j)
  pub front : (j : ℕ) → in_front nv' j ≡ (in_front nv j && not (j == me))

-- from the workspace p to v, the pivot me became an element in the place of its list
pub record BeginsOwn (me : ℕ) (p v : Workspace) (begun : Begun) : Type 0 where
  pub begins : Begins (length p.nv) me [] (own_front p me) begun.total p v
  pub total : begun.total ≡ sum_by (size_of p.nv) (own_front p me)
  pub block : begun.block ≡ size_of p.nv me
  pub same : v ≡ record p { iw = v.iw; nv = v.nv; e_len = v.e_len; len = v.len }

-- from the workspace p to v, the pivot me became an element behind all lists, and the elements that it listed ended
pub record BeginsBuilt (me : ℕ) (p v : Workspace) (begun : Begun) : Type 0 where
  pub begins : Begins (length p.nv) me (elements_in p.iw p.pe p.e_len me) (built_front p me) begun.total p v
  pub counters : (e : ℕ) → num v.w e ≡ cond (has (elements_in p.iw p.pe p.e_len me) e) 0 (num p.w e)
  pub long : length v.w ≡ length p.w
  pub before : IsBehind v.pe v.len me
  pub end : v.free ≤ length v.iw
  pub total : begun.total ≡ sum_by (size_of p.nv) (built_front p me)
  pub block : begun.block ≡ size_of p.nv me
  pub same : v ≡ record p { iw = v.iw; nv = v.nv; pe = v.pe; e_len = v.e_len; len = v.len; w = v.w; free = v.free }

-- the elements that count words name have ended in the row me
pub record Absorbs (me : ℕ) (iw : List ℤ) (from count : ℕ) (pe : List ℤ) (w : List ℕ) (pe' : List ℤ) (w' : List ℕ)
    : Type 0 where
  pub lengths : (length pe' ≡ length pe) × (length w' ≡ length w)
  pub starts : (e : ℕ) → word pe' e ≡ cond (has (rows iw from count) e) (flip_of me) (word pe e)
  pub counters : (e : ℕ) → num w' e ≡ cond (has (rows iw from count) e) 0 (num w e)
