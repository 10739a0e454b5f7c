-- Counts as signed numbers.
use Rattle.std.proofs.Common.{ℕ, ◌≡◌, refl, sym, ◌∙◌, ap, List, [], ◌∷◌, map, pos}
use Rattle.std.specs.Prelude.{unsigned_abs}

-- lists of counts that say the same are one
pub same_counts : (xs ys : List ℕ) → map pos xs ≡ map pos ys → xs ≡ ys
same_counts xs ys q = sym (back xs) ∙ ap (map unsigned_abs) q ∙ back ys
  where
    back : (zs : List ℕ) → map unsigned_abs (map pos zs) ≡ zs
    back [] = refl
    back (z ∷ zs) = ap (λ ws. z ∷ ws) (back zs)
