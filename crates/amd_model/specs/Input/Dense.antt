-- Which rows are held last because they are dense. Source: AMD user guide (the dense row parameter, here in
-- thousandths).
use Rattle.std.specs.Prelude.{ℕ, ℤ, pos, negsuc, Bool, ◌≡◌, ◌-◌, ◌*◌, ◌≤◌, min, max, nat_lt}
use Rattle.amd_model.specs.Graph.{Graph, degree}

-- d is the greatest number with the property
pub record IsGreatest (P : ℕ → Type 0) (d : ℕ) : Type 0 where
  pub has : P d
  pub most : (e : ℕ) → P e → e ≤ d

-- the threshold before it is raised and cut: for a parameter of t thousandths, the greatest d with (1000 d)^2 at most
-- t^2 n; for a negative one n - 2, and 0 for n = 1
abbrev pub IsRawThreshold : ℕ → ℤ → ℕ → Type 0
IsRawThreshold n (pos t) d = IsGreatest (λ e. (1000 * e) * (1000 * e) ≤ t * t * n) d
IsRawThreshold n (negsuc t) d = d ≡ n - 2

-- raised to 16, and afterwards cut to n
abbrev pub IsThreshold : ℕ → ℤ → ℕ → Type 0
IsThreshold n t threshold = (d : ℕ) × IsRawThreshold n t d × (threshold ≡ min (max d 16) n)

-- a row is dense if its degree is greater than the threshold
unfoldable pub is_dense : Graph → ℕ → ℕ → Bool
is_dense g threshold v = nat_lt threshold (degree g v)
