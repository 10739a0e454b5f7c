-- Lists of lists in which one list is written.
use Rattle.std.proofs.Common.{ℕ, Bool, true, ◌≡◌, ◌<◌, ◌≤◌, ◌+◌, ◌⊎◌, inl, inr, sym, ◌∙◌, ap, subst, arith, List, [], ◌∷◌, ◌++◌, Vec}
use Rattle.std.proofs.Common.{Option, None, Some, length, get_or, take, drop, set, append_assoc, take_all}
use Rattle.std.specs.Prelude.{filter, ◌==◌}
use Rattle.std.proofs.lemmas.Bool.{cases_eq, cases_lt, eq-eqb, ne_eqb, eqb-true, or_cases, false≢true}
use Rattle.std.proofs.lemmas.List.{take-append-le, at_drop_more, at_drop_all}
use Rattle.std.proofs.lemmas.List.Elements.{All-nil, All-take}
use Rattle.amd_model.specs.Quotient.{has}
use Rattle.amd_model.proofs.Quotient.Lists.{filter_yes, filter_no}
use Rattle.amd_plain.specs.Views.{list_at, Below}
use Rattle.amd_plain.specs.ListsByBound.{live_in, Popped}
use Rattle.amd_plain.proofs.ListPlaces.{list_set_same, list_set_other, list_past}

-- a number is pushed to the list of its bound
pub pushed : {A : Type 0} (lists : List (Vec ℕ A)) (v : Vec ℕ A) (bound : ℕ → ℕ) (x : ℕ) (xs : List ℕ) → bound x < length lists →
    v.items ≡ list_at lists (bound x) ++ x ∷ [] → (b : ℕ) →
    list_at (set lists (bound x) v) b ++ filter (λ i. bound i == b) xs ≡ list_at lists b ++ filter (λ i. bound i == b) (x ∷ xs)
pushed lists v bound x xs l e b = elim (cases_eq b (bound x)) [
  | inl q ↦ ap (λ ys. ys ++ filter (λ i. bound i == b) xs) (ap (list_at (set lists (bound x) v)) q ∙ list_set_same lists (bound x) v l ∙ e ∙
      ap (λ c. list_at lists c ++ x ∷ []) (sym q))
      ∙ append_assoc (list_at lists b) (x ∷ []) (filter (λ i. bound i == b) xs)
      ∙ ap (λ ys. list_at lists b ++ ys) (sym (filter_yes (λ i. bound i == b) x xs (eq-eqb (bound x) b (sym q))))
  | inr n ↦ ap (λ ys. ys ++ filter (λ i. bound i == b) xs) (list_set_other lists (bound x) v b n)
      ∙ ap (λ ys. list_at lists b ++ ys) (sym (filter_no (λ i. bound i == b) x xs (ne_eqb (bound x) b (λ m. n (sym m)))))
]

-- the least of the bounds that were met, of those from a place on and those before it
pub least_next : (made : List ℕ) (bound : ℕ → ℕ) (i least : ℕ) → i < length made → least ≤ bound (get_or made i 0) →
    (j : ℕ) → (has (drop i made) j ≡ true) ⊎ (least ≤ bound j) → (has (drop (i + 1) made) j ≡ true) ⊎ (least ≤ bound j)
unfolding has
least_next made bound i least l low j (inr k) = inr k
least_next made bound i least l low j (inl k) =
    elim (or_cases (get_or made i 0 == j) (has (drop (i + 1) made) j) (sym (at_drop_more (λ xs. has xs j) made i 0 l) ∙ k)) [
      | inl q ↦ inr (let e = ap bound (eqb-true (get_or made i 0) j q) in omega (arith, e, low))
      | inr q ↦ inl q
    ]

pub least_lower : (b : Bool) (least lower bound : ℕ) → lower ≤ least → (b ≡ true) ⊎ (least ≤ bound) → (b ≡ true) ⊎ (lower ≤ bound)
least_lower b least lower bound l (inl k) = inl k
least_lower b least lower bound l (inr k) = inr (omega (arith, l, k))

pub least_end : (made : List ℕ) (i least bound j : ℕ) → length made ≤ i → (has (drop i made) j ≡ true) ⊎ (least ≤ bound) → least ≤ bound
unfolding has
least_end made i least bound j past (inr k) = k
least_end made i least bound j past (inl k) = absurd (false≢true (sym (at_drop_all (λ xs. has xs j) made i past) ∙ k))

-- the list that names a class stands among the lists
pub place_of_class : {A : Type 0} (size bound : List ℕ) (lists : List (Vec ℕ A)) (b i : ℕ) →
    has (live_in size bound b (list_at lists b)) i ≡ true → b < length lists
unfolding has
place_of_class size bound lists b i h = elim (cases_lt b (length lists)) [
  | inl l ↦ l
  | inr l ↦ absurd (false≢true (sym (ap (λ xs. has (live_in size bound b xs) i) (list_past lists b l)) ∙ h))
]

-- what is left of a list is in range
pub popped_below : (n : ℕ) (size bound : List ℕ) (b : ℕ) (old new : List ℕ) (r : Option ℕ) → Popped size bound b old new r → Below n old →
    Below n new
popped_below n size bound b old new None h k = subst (Below n) (sym h.0) (All-nil (λ j. j < n))
popped_below n size bound b old new (Some i) h k = subst (Below n)
    (ap (take (length new)) h.1 ∙ take-append-le (length new) new (i ∷ h.0) (omega arith) ∙ take_all (length new) new (omega arith))
    (All-take (λ j. j < n) (length new) old k)

-- and the same for equal lists
pub popped_same : (size bound : List ℕ) (b : ℕ) (old new old' new' : List ℕ) (i : ℕ) → old' ≡ old → new' ≡ new →
    Popped size bound b old new (Some i) → Popped size bound b old' new' (Some i)
popped_same size bound b old new old' new' i p q h = (h.0, p ∙ h.1 ∙ ap (λ xs. xs ++ (i ∷ h.0)) (sym q), h.2, h.3)

-- where the list of a bound names no class, a class stands in the list of a greater one
pub next_some : {A : Type 0} (size bound : List ℕ) (lists : List (Vec ℕ A)) (least : ℕ) →
    live_in size bound least (list_at lists least) ≡ [] →
    (b : ℕ) × (i : ℕ) × (least ≤ b) × (has (live_in size bound b (list_at lists b)) i ≡ true) →
    (b : ℕ) × (i : ℕ) × (least + 1 ≤ b) × (has (live_in size bound b (list_at lists b)) i ≡ true)
unfolding has
next_some size bound lists least none some = elim (cases_eq some.0 least) [
  | inl e ↦ absurd (false≢true (sym (ap (λ b. has (live_in size bound b (list_at lists b)) some.1) e ∙ ap (λ xs. has xs some.1) none) ∙
      some.3))
  | inr n ↦ (some.0, some.1, (let l = some.2 in omega (arith, n, l)), some.3)
]

-- the list of a bound up to which none was found
pub least_place : {A : Type 0} (size bound : List ℕ) (lists : List (Vec ℕ A)) (least : ℕ) →
    (b : ℕ) × (i : ℕ) × (least ≤ b) × (has (live_in size bound b (list_at lists b)) i ≡ true) → least < length lists
least_place size bound lists least some = let place = place_of_class size bound lists some.0 some.1 some.3 in let l = some.2 in
    omega (arith, place, l)
