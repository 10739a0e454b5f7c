-- Sums over the places of a list.
use Rattle.std.proofs.Common.{ℕ, zero, suc, ◌≡◌, ◌+◌, refl, sym, ◌∙◌, ap, arith, List, [], ◌∷◌}
use Rattle.std.proofs.Common.{length, sum_by}
use Rattle.std.specs.Prelude.{slice_index_or}
use Rattle.std.proofs.lemmas.List.Sums.{sum_by-cons}
use Rattle.amd_model.specs.Below.{sum_below}

-- the first term apart
sum_first : (n : ℕ) (f : ℕ → ℕ) → sum_below (suc n) f ≡ f 0 + sum_below n (λ k. f (suc k))
unfolding sum_below
sum_first zero f = refl
sum_first (suc n) f = let r = sum_first n f in omega (arith, r)

-- a sum over a list, place by place
pub sum_places : {X : Type 0} (f : X → ℕ) (xs : List X) (d : X) → sum_by f xs ≡ sum_below (length xs) (λ k. f (slice_index_or xs k d))
unfolding sum_below
sum_places f [] d = refl
sum_places f (x ∷ xs) d = let r = sum_places f xs d in let e = sum_first (length xs) (λ k. f (slice_index_or (x ∷ xs) k d)) in
    sum_by-cons f x xs ∙ ap (λ m. f x + m) r ∙ sym e
