-- A list that grows by the numbers of another one which a test does not skip, each at its first occurrence.
use Rattle.std.proofs.Common.{ℕ, Bool, true, false, ◌≡◌, ◌&&◌, ◌||◌, not, inl, inr, refl, sym, ◌∙◌, ap, List, [], ◌∷◌, ◌++◌}
use Rattle.std.specs.Prelude.{fold}
use Rattle.std.proofs.Math.Bool.{or_assoc, and-true}
use Rattle.std.proofs.lemmas.Bool.{cases_Bool}
use Rattle.amd_model.specs.Quotient.{has, add_new}
use Rattle.amd_model.proofs.Quotient.Lists.{has_append, add_old, add_fresh, firsts}

-- a list grows alike by two tests, if what either skips or lists is the same
pub same_adds : (s t : ℕ → Bool) (out xs : List ℕ) → ((x : ℕ) → (s x || has out x) ≡ (t x || has out x)) →
    fold (add_new s) out xs ≡ fold (add_new t) out xs
unfolding has
same_adds s t out [] h = refl
same_adds s t out (y ∷ ys) h = elim (cases_Bool (t y || has out y)) [
  | inl k ↦ ap (λ o. fold (add_new s) o ys) (add_old s out y (h y ∙ k)) ∙ same_adds s t out ys h ∙
      sym (ap (λ o. fold (add_new t) o ys) (add_old t out y k))
  | inr k ↦ ap (λ o. fold (add_new s) o ys) (add_fresh s out y (h y ∙ k))
      ∙ same_adds s t (out ++ y ∷ []) ys (λ x. ap (λ b. s x || b) (has_append out (y ∷ []) x) ∙
      sym (or_assoc (s x) (has out x) (has (y ∷ []) x)) ∙ ap (λ b. b || has (y ∷ []) x) (h x)
      ∙ sym (ap (λ b. t x || b) (has_append out (y ∷ []) x) ∙ sym (or_assoc (t x) (has out x) (has (y ∷ []) x))))
      ∙ sym (ap (λ o. fold (add_new t) o ys) (add_fresh t out y k))
]

-- the numbers that are passed over or listed in the end are those from before, and those of the list
pub adds_marks : (skip : ℕ → Bool) (out xs : List ℕ) (j : ℕ) →
    (skip j || has (fold (add_new skip) out xs) j) ≡ ((skip j || has out j) || has xs j)
adds_marks skip out xs j = ap (λ b. skip j || b) (firsts skip out xs j) ∙ tests (skip j) (has out j) (has xs j)
  where
    tests : (a b c : Bool) → (a || (b || (c && not a))) ≡ ((a || b) || c)
    tests true b c = refl
    tests false true c = refl
    tests false false c = and-true c
