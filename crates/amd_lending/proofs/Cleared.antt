-- Numbers that were cleared: they fit words of each width.
use Rattle.std.proofs.Common.{◌≡◌, ◌∙◌, sym, ap₂, subst, ℕ, ℤ, pos, ◌≤◌, List, [], ◌∷◌, ◌++◌, length, map, take, drop, arith}
use Rattle.std.proofs.Common.{take_all, append-nil}
use Rattle.std.proofs.lemmas.List.{drop_all}
use Rattle.amd_lending.specs.Views.{FitWords}

zeros_fit : (most : ℕ) (xs : List ℤ) → FitWords most (map (λ x. pos 0) xs)
zeros_fit most [] = tt
zeros_fit most (x ∷ xs) = (omega arith, zeros_fit most xs)

-- numbers that were cleared from the first on, once all were
module _ (most : ℕ) (xs ys : List ℤ) (i : ℕ) (all : length xs ≤ i) (items : ys ≡ map (λ x. pos 0) (take i xs) ++ drop i xs) where
  cleared : ys ≡ map (λ x. pos 0) xs
  cleared = items ∙ ap₂ (λ (front back : List ℤ). map (λ x. pos 0) front ++ back) (take_all i xs all) (drop_all i xs all)
      ∙ append-nil (map (λ x. pos 0) xs)

  pub cleared_fit : FitWords most ys
  cleared_fit = subst (FitWords most) (sym cleared) (zeros_fit most xs)
