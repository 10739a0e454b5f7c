-- Paths, and what a class reaches. Source: George and Liu 1981 (reachable sets).
use Rattle.std.specs.Prelude.{ℕ, Bool, true, false, ◌≡◌, ◌<◌, ◌↔◌}
use Rattle.amd_model.specs.Below.{count_below}
use Rattle.amd_model.specs.Graph.{Graph}
use Rattle.amd_model.specs.State.{State, live, eliminated, in_class}

-- w is reached from v by a path of edges whose inner rows are all in a set
pub data Reach (g : Graph) (through : ℕ → Bool) : ℕ → ℕ → Type 0 where
  direct : {v w : ℕ} → g.edge v w ≡ true → Reach g through v w
  by : {v u w : ℕ} → g.edge v u ≡ true → through u ≡ true → Reach g through u w → Reach g through v w

-- n rows have the property
pub record Counts (g : Graph) (P : ℕ → Type 0) (n : ℕ) : Type 0 where
  pub test : ℕ → Bool
  pub exact : (v : ℕ) → v < g.size → (test v ≡ true) ↔ P v
  pub count : count_below g.size test ≡ n

-- the live rows outside the class c that are reached from a row of it through eliminated rows
abbrev pub Reached : Graph → State → ℕ → ℕ → Type 0
Reached g s c w = (live s w ≡ true) × (in_class s c w ≡ false) ×
    ((v : ℕ) × (in_class s c v ≡ true) × Reach g (eliminated s) v w)

-- the true external degree of the class c is n
abbrev pub TrueDegree : Graph → State → ℕ → ℕ → Type 0
TrueDegree g s c n = Counts g (Reached g s c) n
