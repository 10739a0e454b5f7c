-- Lists of numbers: what they name, what a test keeps of them, and sums.
use Rattle.std.proofs.Common.{ℕ, zero, suc, Bool, true, false, List, [], ◌∷◌, ◌++◌, ◌≡◌, ◌≢◌, ◌≤◌, ◌<◌, ◌+◌, ◌∙◌, ◌&&◌, ◌||◌, ◌⊎◌, cond, ap}
use Rattle.std.proofs.Common.{sym, refl, inl, inr, arith, not, length, get_or, take, drop}
use Rattle.std.specs.Prelude.{filter, flat_map, sum_by, ◌==◌}
use Rattle.std.proofs.Math.Bool.{or-false, and-true}
use Rattle.std.proofs.lemmas.Bool.{true≢false, or_cases, eqb-true, or_right, or_from, and_right, eq-eqb, ne_eqb, cases_Bool, cases_eq}
use Rattle.std.proofs.lemmas.Bool.{cond-true, cond-false, not_from_true, not_from_false}
use Rattle.std.proofs.lemmas.List.{take_more, take_all, take-append-drop}
use Rattle.std.proofs.lemmas.List.Elements.{filter-append}
use Rattle.std.proofs.lemmas.List.Filters.{sum_by-filter_both}
use Rattle.std.proofs.lemmas.List.Sums.{sum_by-append, sum_by-cons}
use Rattle.amd_model.specs.Quotient.{has, is_empty, turned, Once}
use Rattle.amd_model.proofs.Quotient.Lists.{has_append, has_turned, filter_yes, filter_no}
use Rattle.amd_model.proofs.Listings.Words.{has_none, has_head, has_tail, has_cases}
use Rattle.amd_model.proofs.Counting.Below.{clash}
use Rattle.amd_round_laws.specs.Views.{Below}

-- a list that names something is not empty
pub not_empty : (xs : List ℕ) (x : ℕ) → has xs x ≡ true → is_empty xs ≡ false
unfolding is_empty
not_empty [] x h = absurd (has_none x h)
not_empty (y ∷ xs) x h = refl

-- tests that agree on what a list names keep the same of it
pub filter_named : (p q : ℕ → Bool) (xs : List ℕ) → ((x : ℕ) → has xs x ≡ true → p x ≡ q x) → filter p xs ≡ filter q xs
filter_named p q [] h = refl
filter_named p q (x ∷ xs) h =
    let here = h x (has_head x x xs refl) in let later = filter_named p q xs (λ y k. h y (has_tail y x xs k)) in
    ap (λ b. cond b (x ∷ filter p xs) (filter p xs)) here ∙ ap (λ l. cond (q x) (x ∷ l) l) later

-- counts that agree on it have the same sum
pub sum_named : (f h : ℕ → ℕ) (xs : List ℕ) → ((x : ℕ) → has xs x ≡ true → f x ≡ h x) → sum_by f xs ≡ sum_by h xs
sum_named f h [] e = refl
sum_named f h (x ∷ xs) e = sum_by-cons f x xs ∙ ap (λ m. m + sum_by f xs) (e x (has_head x x xs refl)) ∙ ap (λ m. h x + m)
    (sum_named f h xs (λ y k. e y (has_tail y x xs k))) ∙ sym (sum_by-cons h x xs)

-- a test that all of it passes keeps the list
pub filter_all : (p : ℕ → Bool) (xs : List ℕ) → ((x : ℕ) → has xs x ≡ true → p x ≡ true) → filter p xs ≡ xs
filter_all p [] h = refl
filter_all p (x ∷ xs) h = filter_yes p x xs (h x (has_head x x xs refl)) ∙ ap (λ l. x ∷ l)
    (filter_all p xs (λ y k. h y (has_tail y x xs k)))

-- what passes one test and then another
pub filter_both : (p q : ℕ → Bool) (xs : List ℕ) → filter (λ x. p x && q x) xs ≡ filter q (filter p xs)
filter_both p q [] = refl
filter_both p q (x ∷ xs) = elim (cases_Bool (p x)) [
  | inl y ↦ ap (λ b. cond (b && q x) (x ∷ filter (λ x. p x && q x) xs) (filter (λ x. p x && q x) xs)) y ∙ ap (λ l. cond (q x) (x ∷ l) l)
      (filter_both p q xs) ∙ sym (ap (filter q) (filter_yes p x xs y))
  | inr n ↦ ap (λ b. cond (b && q x) (x ∷ filter (λ x. p x && q x) xs) (filter (λ x. p x && q x) xs)) n ∙ filter_both p q xs ∙ sym
      (ap (filter q) (filter_no p x xs n))
]

-- lists of what a list names are gathered alike if they are the same
pub flat_same : (f h : ℕ → List ℕ) (xs : List ℕ) → ((x : ℕ) → has xs x ≡ true → f x ≡ h x) → flat_map f xs ≡ flat_map h xs
flat_same f h [] same = refl
flat_same f h (x ∷ xs) same = ap (λ l. l ++ flat_map f xs) (same x (has_head x x xs refl)) ∙ ap (λ l. h x ++ l)
    (flat_same f h xs (λ y k. same y (has_tail y x xs k)))

-- a list that names nothing has no sum
pub none_sum : (f : ℕ → ℕ) (xs : List ℕ) → is_empty xs ≡ true → sum_by f xs ≡ 0
unfolding is_empty
none_sum f [] e = refl
none_sum f (x ∷ xs) e = absurd (true≢false (sym e))

-- what a list names is counted in its sum
pub named_sum : (f : ℕ → ℕ) (xs : List ℕ) (x : ℕ) → has xs x ≡ true → f x ≤ sum_by f xs
named_sum f [] x h = absurd (has_none x h)
named_sum f (y ∷ ys) x h = let a = sum_by-cons f y ys in elim (has_cases x y ys h) [
  | inl q ↦ (let e = ap f q in omega (arith, a, e))
  | inr q ↦ (let b = named_sum f ys x q in omega (arith, a, b))
]

-- ---- the numbers of a list up to a place

-- what stands at a place of a list is named by it
pub has_at : (xs : List ℕ) (k d : ℕ) → k < length xs → has xs (get_or xs k d) ≡ true
has_at [] k d l = absurd (omega (arith, l))
has_at (y ∷ xs) zero d l = has_head y y xs refl
has_at (y ∷ xs) (suc k) d l = has_tail (get_or xs k d) y xs (has_at xs k d (omega (arith, l)))

-- the numbers up to a place are those before it and the one there
pub has_more : (xs : List ℕ) (k d : ℕ) → k < length xs → (x : ℕ) → has (take (k + 1) xs) x ≡ (has (take k xs) x || get_or xs k d == x)
unfolding has
has_more xs k d l x = ap (λ ys. has ys x) (take_more xs k d l) ∙ has_append (take k xs) (get_or xs k d ∷ []) x ∙ ap
    (λ b. has (take k xs) x || b) (or-false (get_or xs k d == x))

-- what is among them is among those before it, or is the one there
pub more_gives : (xs : List ℕ) (k d x : ℕ) → k < length xs → has (take (k + 1) xs) x ≡ true → (has (take k xs) x ≡ true)
    ⊎ (x ≡ get_or xs k d)
more_gives xs k d x l h = elim (or_cases (has (take k xs) x) (get_or xs k d == x) (sym (has_more xs k d l x) ∙ h))
    [ inl q ↦ inl q | inr q ↦ inr (sym (eqb-true (get_or xs k d) x q)) ]

-- the one there is among them
pub has_next : (xs : List ℕ) (k d : ℕ) → k < length xs → has (take (k + 1) xs) (get_or xs k d) ≡ true
has_next xs k d l = let x : ℕ = get_or xs k d in has_more xs k d l x ∙ or_right (has (take k xs) x) (x == x) (eq-eqb x x refl)

-- and no other number is new there
pub has_others : (xs : List ℕ) (k d e : ℕ) → k < length xs → e ≢ get_or xs k d → has (take (k + 1) xs) e ≡ has (take k xs) e
has_others xs k d e l other = has_more xs k d l e ∙ ap (λ b. has (take k xs) e || b) (ne_eqb (get_or xs k d) e (λ q. other (sym q))) ∙
    or-false (has (take k xs) e)

-- the numbers up to the end are all of them
pub has_all : (xs : List ℕ) (k : ℕ) → length xs ≤ k → (x : ℕ) → has (take k xs) x ≡ has xs x
has_all xs k l x = ap (λ ys. has ys x) (take_all k xs l)

-- the next number of a list without repeats is not among those before it
pub not_met : (xs : List ℕ) (k d : ℕ) → k < length xs → Once xs → has (take k xs) (get_or xs k d) ≡ false
unfolding has
not_met [] k d l once = absurd (omega (arith, l))
not_met (y ∷ xs) zero d l once = refl
not_met (y ∷ xs) (suc k) d l once = let small : k < length xs = omega (arith, l) in let z : ℕ = get_or xs k d in
    or_from (y == z) (has (take k xs) z) (ne_eqb y z (λ q. clash (ap (has xs) q ∙ has_at xs k d small) once.0))
    (not_met xs k d small once.1)

-- ---- lists of numbers below n

-- a list is below n if what it names is
pub below_from : (n : ℕ) (xs : List ℕ) → ((x : ℕ) → has xs x ≡ true → x < n) → Below n xs
below_from n xs small = λ k d l. small (get_or xs k d) (has_at xs k d l)

-- and the other way round
pub below_gives : (n : ℕ) (xs : List ℕ) → Below n xs → (x : ℕ) → has xs x ≡ true → x < n
below_gives n [] small x h = absurd (has_none x h)
below_gives n (y ∷ ys) small x h = elim (has_cases x y ys h) [
  | inl e ↦ (let b = small 0 0 (omega arith) in omega (arith, e, b))
  | inr q ↦ below_gives n ys (λ k d l. small (suc k) d (omega (arith, l))) x q
]

-- and so is the list turned
pub below_turned : (n : ℕ) (xs : List ℕ) → Below n xs → Below n (turned xs)
below_turned n xs b = below_from n (turned xs) (λ x h. below_gives n xs b x (sym (has_turned xs x) ∙ h))

-- ---- sums over what passes

-- what passes adds its term
pub sum_pass : (f : ℕ → ℕ) (p : ℕ → Bool) (y : ℕ) (xs : List ℕ) → sum_by f (filter p (y ∷ xs)) ≡ cond (p y) (f y) 0 + sum_by f (filter p xs)
sum_pass f p y xs = elim (cases_Bool (p y)) [
  | inl h ↦ (let a = ap (sum_by f) (filter_yes p y xs h) in let b = cond-true (p y) (f y) 0 h in let c = sum_by-cons f y (filter p xs) in
      omega (arith, a, b, c))
  | inr h ↦ (let a = ap (sum_by f) (filter_no p y xs h) in let b = cond-false (p y) (f y) 0 h in omega (arith, a, b))
]

-- the sum of a part is no more than that of the list
pub sum_part : (f : ℕ → ℕ) (p : ℕ → Bool) (xs : List ℕ) → sum_by f (filter p xs) ≤ sum_by f xs
sum_part f p xs = let both = sum_by-filter_both p (λ x. not (p x)) (λ x. refl) f xs in omega (arith, both)

-- nor is that of the numbers before a place
pub sum_upto : (f : ℕ → ℕ) (p : ℕ → Bool) (xs : List ℕ) (k : ℕ) → sum_by f (filter p (take k xs)) ≤ sum_by f (filter p xs)
sum_upto f p xs k = let a = ap (λ ys. sum_by f (filter p ys)) (take-append-drop k xs) in let b =
    ap (sum_by f) (filter-append p (take k xs) (drop k xs)) in
    let c = sum_by-append f (filter p (take k xs)) (filter p (drop k xs)) in omega (arith, a, b, c)

-- the number at the place adds its term if it passes
pub sum_next : (f : ℕ → ℕ) (p : ℕ → Bool) (xs : List ℕ) (k d : ℕ) → k < length xs →
    sum_by f (filter p (take (k + 1) xs)) ≡ sum_by f (filter p (take k xs)) + cond (p (get_or xs k d)) (f (get_or xs k d)) 0
sum_next f p xs k d l = let x : ℕ = get_or xs k d in
    let a = ap (λ ys. sum_by f (filter p ys)) (take_more xs k d l) in let b = ap (sum_by f) (filter-append p (take k xs) (x ∷ [])) in
    let c = sum_by-append f (filter p (take k xs)) (filter p (x ∷ [])) in let e = sum_pass f p x [] in omega (arith, a, b, c, e)

-- one number that passes, and the others
module _ (f : ℕ → ℕ) (p : ℕ → Bool) (x : ℕ) where
  abbrev others : ℕ → Bool
  others j = p j && not (j == x)

  other_is : (y : ℕ) → y ≢ x → others y ≡ p y
  other_is y ne = ap (λ b. p y && b) (not_from_false (y == x) (ne_eqb y x ne)) ∙ and-true (p y)

  pub sum_apart : (xs : List ℕ) → Once xs → has xs x ≡ true → p x ≡ true → f x + sum_by f (filter others xs) ≡ sum_by f (filter p xs)
  sum_apart [] o h e = absurd (has_none x h)
  sum_apart (y ∷ xs) o h e = let a = sum_pass f p y xs in let b = sum_pass f others y xs in elim (cases_eq y x) [
    | inl same ↦ (let c = ap (sum_by f) (filter_named others p xs (λ z k. other_is z (λ q. clash k (ap (has xs) (q ∙ sym same) ∙ o.0)))) in
        let d = cond-true (p y) (f y) 0 (ap p same ∙ e) in
        let g = cond-false (others y) (f y) 0 (and_right (p y) (not (y == x)) (not_from_true (y == x) (eq-eqb y x same))) in
        let m = ap f same in omega (arith, a, b, c, d, g, m))
    | inr ne ↦ (let c = sum_apart xs o.1 (elim (has_cases x y xs h) [ inl q ↦ absurd (ne (sym q)) | inr q ↦ q ]) e in let d =
        ap (λ b. cond b (f y) 0) (other_is y ne) in omega (arith, a, b, c, d))
  ]
