-- Counts are read back as they were.
use Rattle.std.proofs.Common.{ℕ, List, [], ◌∷◌, ◌≡◌, ap, map, pos, refl}
use Rattle.amd_types.specs.Naturals.{naturals}

pub counts_back : (xs : List ℕ) → naturals (map pos xs) ≡ xs
counts_back [] = refl
counts_back (x ∷ xs) = ap (λ ys. x ∷ ys) (counts_back xs)
