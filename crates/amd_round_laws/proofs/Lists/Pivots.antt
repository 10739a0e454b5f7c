-- The last of the least: the pivot is the last one placed of its bound. And two filters after one another that keep the same.
use Rattle.std.proofs.Common.{ℕ, Bool, true, ◌≡◌, ◌≤◌, ◌&&◌, inl, inr, refl, sym, ◌∙◌, ap, List, [], ◌∷◌, ◌++◌, cond, arith}
use Rattle.std.specs.Prelude.{fold, filter, nat_le, ◌==◌}
use Rattle.std.proofs.lemmas.Bool.{cases_Bool, cond-true, cond-false, cond_both, cases_eq, eq-eqb, ne_eqb, eqb-true, le-leb, false≢true}
use Rattle.std.proofs.lemmas.List.Sums.{fold_push}
use Rattle.amd_model.specs.Quotient.{has, pivot, last_that}
use Rattle.amd_model.proofs.Quotient.Lists.{pivot_least, pivot_named, filter_yes, filter_no}
use Rattle.amd_model.proofs.Listings.Words.{has_filter as filter_gives, has_head, has_tail, has_right}
use Rattle.amd_round_laws.proofs.Lists.Named.{filter_named, filter_both}

-- ---- what filters keep

pub eq_flip : (a b : ℕ) → (a == b) ≡ (b == a)
eq_flip a b = elim (cases_eq a b) [
  | inl e ↦ eq-eqb a b e ∙ sym (eq-eqb b a (sym e))
  | inr n ↦ ne_eqb a b n ∙ sym (ne_eqb b a (λ e. n (sym e)))
]

pub filters_on : (p q r s : ℕ → Bool) (xs : List ℕ) → ((x : ℕ) → has xs x ≡ true → (q x && p x) ≡ (s x && r x)) →
    filter p (filter q xs) ≡ filter r (filter s xs)
filters_on p q r s xs h = sym (filter_both q p xs) ∙ filter_named (λ x. q x && p x) (λ x. s x && r x) xs h ∙ filter_both s r xs

-- ---- the pivot

-- the walk to the pivot and the walk to the last one of a bound agree from the moment when one of the least bound was met
walks : (bound : ℕ → ℕ) (m r q : ℕ) (ys : List ℕ) → m ≤ bound r → ((y : ℕ) → has ys y ≡ true → m ≤ bound y) → (bound r ≡ m → q ≡ r) →
    bound (fold (λ r y. cond (nat_le (bound y) (bound r)) y r) r ys) ≡ m →
    fold (λ r y. cond (bound y == m) y r) q ys ≡ fold (λ r y. cond (nat_le (bound y) (bound r)) y r) r ys
walks bound m r q [] lr ly h e = h e
walks bound m r q (y ∷ ys) lr ly h e =
    let my : m ≤ bound y = ly y (has_head y y ys refl) in
    let rest : (z : ℕ) → has ys z ≡ true → m ≤ bound z = λ z k. ly z (has_tail z y ys k) in
    let t : Bool = nat_le (bound y) (bound r) in
    walks bound m (cond t y r) (cond (bound y == m) y q) ys
    (cond_both t y r (λ k. m ≤ bound k) (λ k. my) (λ k. lr)) rest
    (λ k. elim (cases_eq (bound y) m) [
      | inl s ↦ cond-true (bound y == m) y q (eq-eqb (bound y) m s) ∙
          sym (cond-true t y r (le-leb (bound y) (bound r) (omega (arith, s, lr))))
      | inr n ↦ cond-false (bound y == m) y q (ne_eqb (bound y) m n) ∙ elim (cases_Bool t) [
        | inl a ↦ absurd (n (sym (ap bound (cond-true t y r a)) ∙ k))
        | inr a ↦ h (sym (ap bound (cond-false t y r a)) ∙ k) ∙ sym (cond-false t y r a)
      ]
    ]) e

-- the pivot is the last one of its bound
pub pivot_last : (bound : ℕ → ℕ) (c : ℕ) (xs : List ℕ) → last_that (λ y. bound y == bound (pivot bound (c ∷ xs))) c xs ≡ pivot bound
    (c ∷ xs)
unfolding last_that pivot
pivot_last bound c xs = let m : ℕ = bound (pivot bound (c ∷ xs)) in
    walks bound m c c xs (pivot_least bound c xs c (has_head c c xs refl)) (λ y k. pivot_least bound c xs y (has_tail y c xs k)) (λ e. refl)
    refl

-- the last one that passes is the last of those that pass
pub last_filter : (p : ℕ → Bool) (d : ℕ) (xs : List ℕ) → last_that p d xs ≡ fold (λ r x. x) d (filter p xs)
unfolding last_that
last_filter p d [] = refl
last_filter p d (x ∷ xs) = elim (cases_Bool (p x)) [
  | inl k ↦ ap (λ e. last_that p e xs) (cond-true (p x) x d k) ∙ last_filter p x xs ∙ sym (ap (fold (λ r x. x) d) (filter_yes p x xs k))
  | inr k ↦ ap (λ e. last_that p e xs) (cond-false (p x) x d k) ∙ last_filter p d xs ∙ sym (ap (fold (λ r x. x) d) (filter_no p x xs k))
]

-- the head alone makes no difference as the first answer
last_head : (p : ℕ → Bool) (d : ℕ) (xs : List ℕ) → fold (λ r x. x) d (filter p xs) ≡ fold (λ r x. x) d (filter p (d ∷ xs))
last_head p d xs = elim (cases_Bool (p d)) [
  | inl k ↦ sym (ap (fold (λ r x. x) d) (filter_yes p d xs k))
  | inr k ↦ sym (ap (fold (λ r x. x) d) (filter_no p d xs k))
]

-- the last one placed of those of the least bound is the pivot
pub choose_pivot : (bound : ℕ → ℕ) (placed : List ℕ) (m c : ℕ) (xs : List ℕ) → ((i : ℕ) → has placed i ≡ true → m ≤ bound i) →
    filter (λ i. bound i == m) placed ≡ xs ++ c ∷ [] → pivot bound placed ≡ c
unfolding has
choose_pivot bound [] m c xs low is = absurd (false≢true (ap (λ l. has l c) is ∙ has_right c xs (c ∷ []) (has_head c c [] refl)))
choose_pivot bound (d ∷ ds) m c xs low is =
    let placed : List ℕ = d ∷ ds in
    let p : ℕ = pivot bound placed in
    let named = ap (λ l. has l c) is ∙ has_right c xs (c ∷ []) (has_head c c [] refl) in
    let parts = filter_gives (λ i. bound i == m) placed c named in
    let bound_c : bound c ≡ m = eqb-true (bound c) m parts.1 in
    let up = pivot_least bound d ds c parts.0 in
    let down = low p (pivot_named bound d ds) in
    let same : bound p ≡ m = omega (arith, bound_c, up, down) in
    sym (pivot_last bound d ds) ∙ ap (λ n. last_that (λ y. bound y == n) d ds) same ∙ last_filter (λ y. bound y == m) d ds ∙
    last_head (λ y. bound y == m) d ds
    ∙ ap (fold (λ r x. x) d) is ∙ fold_push (λ r x. x) d xs c
