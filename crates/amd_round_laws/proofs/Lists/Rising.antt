-- Counts and lists of the numbers below a bound, of one number more, of two tests that agree, and of what passes two tests.
use Rattle.std.proofs.Common.{ℕ, zero, suc, Bool, true, false, ◌≡◌, ◌<◌, ◌+◌, ◌&&◌, cond, refl, ◌∙◌, ap, arith}
use Rattle.std.proofs.Common.{add-one, [], ◌∷◌, ◌++◌}
use Rattle.std.specs.Prelude.{filter}
use Rattle.std.proofs.lemmas.Bool.{cond-true, cond-false}
use Rattle.std.proofs.lemmas.List.{append-nil}
use Rattle.std.proofs.lemmas.List.Elements.{filter-append}
use Rattle.amd_model.specs.Below.{count_below, sum_below, list_below}

abbrev one_if : Bool → ℕ
one_if b = cond b 1 0

-- one number more passes
pub count_yes : (p : ℕ → Bool) (i count : ℕ) → count ≡ count_below i p → p i ≡ true → count + 1 ≡ count_below (i + 1) p
unfolding count_below sum_below
count_yes p i count e h = rw (add-one i) (let one : one_if (p i) ≡ one_if true = ap one_if h in omega (arith, e, one))

-- or does not
pub count_no : (p : ℕ → Bool) (i count : ℕ) → count ≡ count_below i p → p i ≡ false → count ≡ count_below (i + 1) p
unfolding count_below sum_below
count_no p i count e h = rw (add-one i) (let none : one_if (p i) ≡ one_if false = ap one_if h in omega (arith, e, none))

-- one number more is listed
pub list_yes : (p : ℕ → Bool) (i : ℕ) → p i ≡ true → list_below (i + 1) p ≡ list_below i p ++ i ∷ []
unfolding list_below
list_yes p i h = rw (add-one i) (ap (λ ys. list_below i p ++ ys) (cond-true (p i) (i ∷ []) [] h))

-- or is not
pub list_no : (p : ℕ → Bool) (i : ℕ) → p i ≡ false → list_below (i + 1) p ≡ list_below i p
unfolding list_below
list_no p i h = rw (add-one i) (ap (λ ys. list_below i p ++ ys) (cond-false (p i) (i ∷ []) [] h) ∙ append-nil (list_below i p))

-- tests that agree below a bound list the same
pub list_same : (n : ℕ) (p q : ℕ → Bool) → ((k : ℕ) → k < n → p k ≡ q k) → list_below n p ≡ list_below n q
unfolding list_below
list_same zero p q h = refl
list_same (suc n) p q h = ap (λ ys. ys ++ cond (p n) (n ∷ []) []) (list_same n p q (λ k l. h k (omega (arith, l))))
    ∙ ap (λ b. list_below n q ++ cond b (n ∷ []) []) (h n (omega arith))

-- what passes two tests
pub filter_below : (n : ℕ) (p q : ℕ → Bool) → filter q (list_below n p) ≡ list_below n (λ i. p i && q i)
unfolding list_below
filter_below zero p q = refl
filter_below (suc n) p q = filter-append q (list_below n p) (cond (p n) (n ∷ []) [])
    ∙ ap (λ ys. ys ++ filter q (cond (p n) (n ∷ []) [])) (filter_below n p q) ∙ ap (λ ys. list_below n (λ i. p i && q i) ++ ys) (one (p n))
  where
    one : (b : Bool) → filter q (cond b (n ∷ []) []) ≡ cond (b && q n) (n ∷ []) []
    one true = refl
    one false = refl
