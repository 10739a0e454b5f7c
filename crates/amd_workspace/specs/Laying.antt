-- The lists of neighbours in one workspace, as they are laid.
use Rattle.std.specs.Prelude.{ℕ, ℤ, Bool, true, pos, replicate, List, map, length, ◌≡◌, ◌<◌, ◌≤◌}
use Rattle.amd_model.specs.Below.{sum_below}
use Rattle.amd_model.specs.Graph.{Graph}
use Rattle.amd_edges.specs.Visits.{AreLists}
use Rattle.amd_words.specs.Words.{num, is_place, place, word}
use Rattle.amd_lists.specs.Layout.{Layout, live_words}

-- the words so far: the lists of the arcs that were seen, where each word is a row, and both widths hold what comes
pub record Lays (g : Graph) (seen : ℕ → ℕ → Bool) (arcs : List (ℕ × ℕ)) (most_word most_cell : ℕ) (next : List ℕ)
    (iw : List ℤ) : Type 0 where
  pub lists : AreLists g seen arcs next (map place iw)
  pub words : (k : ℕ) → (is_place (word iw k) ≡ true) × (place (word iw k) < g.size)
  pub rows : g.size ≤ most_word
  pub places : length iw ≤ most_cell

-- where the list of each row starts, as a word and as a figure
pub record Starts (degrees : List ℕ) (pe : List ℤ) (next : List ℕ) : Type 0 where
  pub long : length next ≡ length degrees
  pub each : (i : ℕ) → i < length degrees → num next i ≡ sum_below i (num degrees)
  pub words : pe ≡ map pos next

-- each of n rows has a list of words, no element stands yet, and the lists fill the workspace up to its free end
pub record IsLaidOut (n : ℕ) (iw pe : List ℤ) (len : List ℕ) (free : ℕ) : Type 0 where
  pub starts_long : length pe ≡ n
  pub lengths_long : length len ≡ n
  pub starts : (i : ℕ) → i < n → is_place (word pe i) ≡ true
  pub layout : Layout n iw pe (replicate n (pos 0)) len free
  pub words : live_words n pe len ≡ free
  pub room : free ≤ length iw
