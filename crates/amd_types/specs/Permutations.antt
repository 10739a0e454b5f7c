-- Two lists of a caller's numbers that are inverse permutations.
use Rattle.std.specs.Prelude.{◌≡◌, ◌<◌, ℕ, ℤ, pos, List, length}
use Rattle.amd_model.specs.Input.Columns.{at}

-- for each k below n, p has some i below n at k, and q has k at i
abbrev pub Undoes : ℕ → List ℤ → List ℤ → Type 0
Undoes n p q = (k : ℕ) → k < n → (i : ℕ) × (i < n) × (at p k ≡ pos i) × (at q i ≡ pos k)

-- two permutations of the numbers below n, each the inverse of the other
pub record AreInverse (n : ℕ) (p q : List ℤ) : Type 0 where
  pub p_length : length p ≡ n
  pub q_length : length q ≡ n
  pub there : Undoes n p q
  pub back : Undoes n q p
