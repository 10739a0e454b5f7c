-- Where rows stand.
use Rattle.std.proofs.Common.{◌≡◌, ◌+◌, ◌<◌, ◌≤◌, ◌⊎◌, inl, inr, ℕ, Bool, true, false, List, get_or, arith, ap, eqb, ◌||◌}
use Rattle.std.proofs.lemmas.Bool.{and_parts, or_cases, and_from, or_left, or_right, cases_eq, cases_lt, leb-true, eqb-true}
use Rattle.std.proofs.lemmas.Bool.{ltb-true, le-leb, eq-eqb, lt-ltb, false_from_ne_true}
use Rattle.std.specs.Cmp.{both_ways}
use Rattle.amd_model.proofs.Counting.Below.{any_from, any_gives}
use Rattle.amd_types.specs.Naturals.{is_before, is_entry}

pub funext : {A B : Type 0} (f g : A → B) → ((x : A) → f x ≡ g x) → f ≡ g
funext f g h = λ i. λ x. h x i

pub funext2 : (f g : ℕ → ℕ → Bool) → ((a b : ℕ) → f a b ≡ g a b) → f ≡ g
funext2 f g h = λ i. λ a b. h a b i

-- below, the same, or above
pub cases_order : (b k : ℕ) → (b < k) ⊎ ((b ≡ k) ⊎ (k < b))
cases_order b k = elim (cases_lt b k) [ inl x ↦ inl x | inr x ↦ inr (elim (cases_eq b k) [ inl y ↦ inl y | inr y ↦ inr (omega arith) ]) ]

module _ (ap' ai : List ℕ) where
  pub before_from : (limit i j q : ℕ) → get_or ap' j 0 ≤ q → q < limit → get_or ai q 0 ≡ i → is_before ap' ai limit i j ≡ true
  unfolding is_before
  before_from limit i j q low high e = any_from limit _ q high (and_from _ _ (le-leb _ _ low) (eq-eqb _ _ e))

  pub before_gives : (limit i j : ℕ) → is_before ap' ai limit i j ≡ true → (q : ℕ) × (get_or ap' j 0 ≤ q) × (q < limit)
      × (get_or ai q 0 ≡ i)
  unfolding is_before
  before_gives limit i j e =
      let r = any_gives limit _ e in
      let parts = and_parts _ _ r.2 in
      (r.0, leb-true _ _ parts.0, r.1, eqb-true _ _ parts.1)

  pub before_none : (limit i j : ℕ) → ((q : ℕ) → get_or ap' j 0 ≤ q → q < limit → get_or ai q 0 ≡ i → ⊥) →
      is_before ap' ai limit i j ≡ false
  before_none limit i j h = false_from_ne_true _ (λ e. let r = before_gives limit i j e in h r.0 r.1 r.2 r.3)

  -- one place more, which holds the row i
  pub before_more : (q i j b : ℕ) → get_or ap' j 0 ≤ q → get_or ai q 0 ≡ i → is_before ap' ai (q + 1) b j ≡ is_before ap' ai q b j
      || eqb b i
  before_more q i j b low e = both_ways _ _
      (λ h. let r = before_gives (q + 1) b j h in elim (cases_eq r.0 q) [
        | inl here ↦ or_right _ _ (eq-eqb b i (let w = r.3 in let v = ap (λ x. get_or ai x 0) here in omega arith))
        | inr other ↦ or_left _ _ (before_from q b j r.0 r.1 (let w = r.2 in omega arith) r.3)
      ])
      (λ h. elim (or_cases _ _ h) [
        | inl x ↦ (let r = before_gives q b j x in before_from (q + 1) b j r.0 r.1 (let w = r.2 in omega arith) r.3)
        | inr x ↦ before_from (q + 1) b j q low (omega arith) (let w = eqb-true b i x in omega arith)
      ])

  pub entry_from : (n i j q : ℕ) → j < n → get_or ap' j 0 ≤ q → q < get_or ap' (j + 1) 0 → get_or ai q 0 ≡ i → is_entry n ap' ai i j ≡ true
  unfolding is_entry
  entry_from n i j q h low high e = and_from _ _ (lt-ltb _ _ h) (before_from _ i j q low high e)

  pub entry_gives : (n i j : ℕ) → is_entry n ap' ai i j ≡ true → (q : ℕ) × (j < n) × (get_or ap' j 0 ≤ q) × (q < get_or ap' (j + 1) 0)
      × (get_or ai q 0 ≡ i)
  unfolding is_entry
  entry_gives n i j e =
      let parts = and_parts _ _ e in
      let r = before_gives _ i j parts.1 in
      (r.0, ltb-true _ _ parts.0, r.1, r.2, r.3)

  pub entry_none : (n i j : ℕ) → ((q : ℕ) → j < n → get_or ap' j 0 ≤ q → q < get_or ap' (j + 1) 0 → get_or ai q 0 ≡ i → ⊥) →
      is_entry n ap' ai i j ≡ false
  entry_none n i j h = false_from_ne_true _ (λ e. let r = entry_gives n i j e in h r.0 r.1 r.2 r.3 r.4)
