-- The shape of a pattern: how many entries have a mirror, how wide its band is, how long its profile is, and how many
-- components its graph has. Source: George and Liu 1981; Davis and Hu 2011 (pattern symmetry).
use Rattle.std.specs.Prelude.{◌≡◌, ◌<◌, ◌≤◌, ◌-◌, ◌==◌, ◌&&◌, ◌⊎◌, ℕ, ℤ, Bool, true, false, not, List}
use Rattle.amd_model.specs.Below.{count_below, sum_below}
use Rattle.amd_model.specs.Graph.{Graph}
use Rattle.amd_model.specs.Input.Pattern.{is_pair}

-- the number of pairs off the diagonal whose mirror is a pair too
unfoldable pub mirrored_count : ℕ → List ℤ → List ℤ → ℕ
mirrored_count n ap ai =
    sum_below n (λ j. count_below n (λ i. not (j == i) && (is_pair n ap ai i j && is_pair n ap ai j i)))

-- the most that a number of a row and a column is over the pairs; 0 where there are none
pub record IsMost (n : ℕ) (ap ai : List ℤ) (f : ℕ → ℕ → ℕ) (most : ℕ) : Type 0 where
  pub bound : (i j : ℕ) → is_pair n ap ai i j ≡ true → f i j ≤ most
  pub reached : (most ≡ 0) ⊎ ((i : ℕ) × (j : ℕ) × (is_pair n ap ai i j ≡ true) × (f i j ≡ most))

-- how far a place is below the diagonal, and above it
abbrev pub below : ℕ → ℕ → ℕ
below i j = i - j

abbrev pub above : ℕ → ℕ → ℕ
above i j = j - i

-- the profile: the sum, over the rows, of how far before the diagonal the first neighbour of a row is; 0 where none is
-- before it
pub record IsProfile (g : Graph) (profile : ℕ) : Type 0 where
  pub first : ℕ → ℕ
  pub before : (i j : ℕ) → i < g.size → j < first i → g.edge i j ≡ false
  pub found : (i : ℕ) → i < g.size → (first i ≡ i) ⊎ ((first i < i) × (g.edge i (first i) ≡ true))
  pub sum : profile ≡ sum_below g.size (λ i. i - first i)

-- two rows are connected where edges lead from the one to the other
pub data Connected (g : Graph) : ℕ → ℕ → Type 0 where
  alone : {v : ℕ} → Connected g v v
  joined : {v w : ℕ} → g.edge v w ≡ true → Connected g v w
  back : {v w : ℕ} → Connected g v w → Connected g w v
  onward : {v u w : ℕ} → Connected g v u → Connected g u w → Connected g v w

-- a graph has so many components: that many rows, of which each row is connected with one, and with no other
pub record HasComponents (g : Graph) (number : ℕ) : Type 0 where
  pub chosen : ℕ → Bool
  pub counted : number ≡ count_below g.size chosen
  pub each : (v : ℕ) → v < g.size → (r : ℕ) × (r < g.size) × (chosen r ≡ true) × Connected g v r
  pub apart : (r s : ℕ) → r < g.size → s < g.size → chosen r ≡ true → chosen s ≡ true → Connected g r s → r ≡ s
