-- The sides of all rows, as two lists.
use Rattle.std.specs.Prelude.{ℕ, List, map}

-- what stands behind each row
unfoldable pub nexts : List (ℕ × ℕ) → List ℕ
nexts sides = map (λ a. a.0) sides

-- what stands before each row
unfoldable pub lasts : List (ℕ × ℕ) → List ℕ
lasts sides = map (λ a. a.1) sides
