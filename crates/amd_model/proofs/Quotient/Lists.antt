-- What lists name.
use Rattle.std.proofs.Common.{ℕ, Bool, true, false, ◌≡◌, ◌≤◌, ◌&&◌, ◌||◌, not, cond, ◌⊎◌, inl, inr, refl, sym, ◌∙◌, ap, subst, arith, List}
use Rattle.std.proofs.Common.{[], ◌∷◌, ◌++◌}
use Rattle.std.specs.Prelude.{filter, fold, flat_map, ◌==◌}
use Rattle.std.proofs.lemmas.Bool.{cases_Bool, true≢false, false≢true, and_parts, and_from, or_cases, or_left, or_right, eqb-true, eq-eqb}
use Rattle.std.proofs.lemmas.Bool.{cond-true, cond-false, not_from_false, not-true}
use Rattle.std.proofs.Math.Bool.{or_assoc, or_comm, or-false, and-false}
use Rattle.std.specs.Cmp.{both_ways}
use Rattle.amd_model.specs.Quotient.{has, each, is_empty, turned, last_that, add_new, pivot, Once}
use Rattle.amd_model.proofs.Counting.Below.{clash}

pub has_append : (xs ys : List ℕ) (x : ℕ) → has (xs ++ ys) x ≡ (has xs x || has ys x)
unfolding has
has_append [] ys x = refl
has_append (y ∷ xs) ys x = ap (λ b. (y == x) || b) (has_append xs ys x) ∙ sym (or_assoc (y == x) (has xs x) (has ys x))

pub has_turned : (xs : List ℕ) (x : ℕ) → has (turned xs) x ≡ has xs x
unfolding has turned
has_turned [] x = refl
has_turned (y ∷ xs) x = has_append xs (y ∷ []) x ∙ ap (λ b. has xs x || b) (or-false (y == x)) ∙ or_comm (has xs x) (y == x)

-- the first number of a list passes
pub filter_yes : (p : ℕ → Bool) (y : ℕ) (xs : List ℕ) → p y ≡ true → filter p (y ∷ xs) ≡ y ∷ filter p xs
filter_yes p y xs h = cond-true (p y) (y ∷ filter p xs) (filter p xs) h

-- or does not
pub filter_no : (p : ℕ → Bool) (y : ℕ) (xs : List ℕ) → p y ≡ false → filter p (y ∷ xs) ≡ filter p xs
filter_no p y xs h = cond-false (p y) (y ∷ filter p xs) (filter p xs) h

or_and : (a b c : Bool) → (a ≡ true → c ≡ true) → (a || (b && c)) ≡ ((a || b) && c)
or_and true b c f = sym (f refl)
or_and false b c f = refl

or_drop : (a b c : Bool) → (a ≡ true → c ≡ false) → (b && c) ≡ ((a || b) && c)
or_drop true b c f = rw (f refl) (and-false b)
or_drop false b c f = refl

pub has_filter : (p : ℕ → Bool) (xs : List ℕ) (x : ℕ) → has (filter p xs) x ≡ (has xs x && p x)
unfolding has
has_filter p [] x = refl
has_filter p (y ∷ xs) x = elim (cases_Bool (p y)) [
  | inl h ↦ ap (λ l. has l x) (filter_yes p y xs h) ∙ ap (λ b. (y == x) || b) (has_filter p xs x) ∙
      or_and (y == x) (has xs x) (p x) (λ q. ap p (sym (eqb-true y x q)) ∙ h)
  | inr h ↦ ap (λ l. has l x) (filter_no p y xs h) ∙ has_filter p xs x ∙
      or_drop (y == x) (has xs x) (p x) (λ q. ap p (sym (eqb-true y x q)) ∙ h)
]

pub each_gives : (p : ℕ → Bool) (xs : List ℕ) → each p xs ≡ true → (x : ℕ) → has xs x ≡ true → p x ≡ true
unfolding has each
each_gives p [] e x h = absurd (false≢true h)
each_gives p (y ∷ xs) e x h = let k = and_parts (p y) (each p xs) e in elim (or_cases (y == x) (has xs x) h) [
  | inl q ↦ ap p (sym (eqb-true y x q)) ∙ k.0
  | inr q ↦ each_gives p xs k.1 x q
]

pub each_from : (p : ℕ → Bool) (xs : List ℕ) → ((x : ℕ) → has xs x ≡ true → p x ≡ true) → each p xs ≡ true
unfolding has each
each_from p [] f = refl
each_from p (y ∷ xs) f = and_from (p y) (each p xs) (f y (or_left (y == y) (has xs y) (eq-eqb y y refl)))
    (each_from p xs (λ x h. f x (or_right (y == x) (has xs x) h)))

pub empty_gives : (xs : List ℕ) → is_empty xs ≡ true → (x : ℕ) → has xs x ≡ true → ⊥
unfolding has is_empty
empty_gives [] e x h = false≢true h
empty_gives (y ∷ xs) e x h = false≢true e

pub empty_from : (xs : List ℕ) → ((x : ℕ) → has xs x ≡ true → ⊥) → is_empty xs ≡ true
unfolding has is_empty
empty_from [] f = refl
empty_from (y ∷ xs) f = absurd (f y (or_left (y == y) (has xs y) (eq-eqb y y refl)))

pub some_of : (xs : List ℕ) → is_empty xs ≡ false → (x : ℕ) × (has xs x ≡ true)
unfolding has is_empty
some_of [] e = absurd (true≢false e)
some_of (y ∷ xs) e = (y, or_left (y == y) (has xs y) (eq-eqb y y refl))

pub once_append : (xs ys : List ℕ) → Once xs → Once ys → ((x : ℕ) → has xs x ≡ true → has ys x ≡ true → ⊥) → Once (xs ++ ys)
unfolding has
once_append [] ys a b f = b
once_append (x ∷ xs) ys a b f = (
  elim (cases_Bool (has (xs ++ ys) x)) [
    | inr h ↦ h
    | inl h ↦ elim (or_cases (has xs x) (has ys x) (sym (has_append xs ys x) ∙ h)) [
      | inl k ↦ clash k a.0
      | inr k ↦ absurd (f x (or_left (x == x) (has xs x) (eq-eqb x x refl)) k)
    ]
  ],
  once_append xs ys a.1 b (λ z h. f z (or_right (x == z) (has xs z) h)),
)

pub once_filter : (p : ℕ → Bool) (xs : List ℕ) → Once xs → Once (filter p xs)
once_filter p [] a = tt
once_filter p (y ∷ xs) a = elim (cases_Bool (p y)) [
  | inl h ↦ subst Once (sym (filter_yes p y xs h)) (has_filter p xs y ∙ ap (λ b. b && p y) a.0, once_filter p xs a.1)
  | inr h ↦ subst Once (sym (filter_no p y xs h)) (once_filter p xs a.1)
]

pub once_push : (xs : List ℕ) (x : ℕ) → Once xs → has xs x ≡ false → Once (xs ++ x ∷ [])
unfolding has
once_push xs x a f = once_append xs (x ∷ []) a (refl, tt) (λ z h k.
    elim (or_cases (x == z) false k) [ inl q ↦ clash h (ap (has xs) (sym (eqb-true x z q)) ∙ f) | inr q ↦ false≢true q ])

pub once_turned : (xs : List ℕ) → Once xs → Once (turned xs)
unfolding turned
once_turned [] a = tt
once_turned (y ∷ xs) a = once_push xs y a.1 a.0

-- first occurrences
pub add_old : (skip : ℕ → Bool) (out : List ℕ) (x : ℕ) → (skip x || has out x) ≡ true → add_new skip out x ≡ out
unfolding add_new
add_old skip out x h = cond-true (skip x || has out x) out (out ++ x ∷ []) h

pub add_fresh : (skip : ℕ → Bool) (out : List ℕ) (x : ℕ) → (skip x || has out x) ≡ false → add_new skip out x ≡ out ++ x ∷ []
unfolding add_new
add_fresh skip out x h = cond-false (skip x || has out x) out (out ++ x ∷ []) h

pub firsts : (skip : ℕ → Bool) (out xs : List ℕ) (x : ℕ) → has (fold (add_new skip) out xs) x ≡ (has out x || (has xs x && not (skip x)))
unfolding has
firsts skip out [] x = sym (or-false (has out x))
firsts skip out (y ∷ xs) x = firsts skip (add_new skip out y) xs x ∙ elim (cases_Bool (skip y || has out y)) [
  | inl h ↦ ap (λ l. has l x || (has xs x && not (skip x))) (add_old skip out y h) ∙
      both_ways (has out x || (has xs x && not (skip x))) (has out x || (((y == x) || has xs x) && not (skip x)))
      (λ a. elim (or_cases (has out x) (has xs x && not (skip x)) a) [
        | inl b ↦ or_left (has out x) _ b
        | inr b ↦ (let k = and_parts (has xs x) (not (skip x)) b in
            or_right (has out x) _ (and_from ((y == x) || has xs x) (not (skip x)) (or_right (y == x) (has xs x) k.0) k.1))
      ])
      (λ a. elim (or_cases (has out x) (((y == x) || has xs x) && not (skip x)) a) [
        | inl b ↦ or_left (has out x) _ b
        | inr b ↦ (let k = and_parts ((y == x) || has xs x) (not (skip x)) b in elim (or_cases (y == x) (has xs x) k.0) [
          | inl q ↦ (let e = eqb-true y x q in elim (or_cases (skip y) (has out y) h) [
            | inl z ↦ clash (ap skip (sym e) ∙ z) (not-true (skip x) k.1)
            | inr z ↦ or_left (has out x) _ (ap (has out) (sym e) ∙ z)
          ])
          | inr q ↦ or_right (has out x) _ (and_from (has xs x) (not (skip x)) q k.1)
        ])
      ])
  | inr h ↦ ap (λ l. has l x || (has xs x && not (skip x))) (add_fresh skip out y h) ∙
      ap (λ b. b || (has xs x && not (skip x))) (has_append out (y ∷ []) x) ∙
      both_ways ((has out x || ((y == x) || false)) || (has xs x && not (skip x))) (has out x || (((y == x) || has xs x) && not (skip x)))
      (λ a. elim (or_cases (has out x || ((y == x) || false)) (has xs x && not (skip x)) a) [
        | inl b ↦ elim (or_cases (has out x) ((y == x) || false) b) [
          | inl d ↦ or_left (has out x) _ d
          | inr d ↦ (let q = sym (or-false (y == x)) ∙ d in let e = eqb-true y x q in
              let k = Rattle.std.proofs.lemmas.Bool.or_parts (skip y) (has out y) h in
              or_right (has out x) _ (and_from ((y == x) || has xs x) (not (skip x)) (or_left (y == x) (has xs x) q)
              (not_from_false (skip x) (ap skip (sym e) ∙ k.0))))
        ]
        | inr b ↦ (let k = and_parts (has xs x) (not (skip x)) b in
            or_right (has out x) _ (and_from ((y == x) || has xs x) (not (skip x)) (or_right (y == x) (has xs x) k.0) k.1))
      ])
      (λ a. elim (or_cases (has out x) (((y == x) || has xs x) && not (skip x)) a) [
        | inl b ↦ or_left (has out x || ((y == x) || false)) _ (or_left (has out x) _ b)
        | inr b ↦ (let k = and_parts ((y == x) || has xs x) (not (skip x)) b in elim (or_cases (y == x) (has xs x) k.0) [
          | inl q ↦ or_left (has out x || ((y == x) || false)) _ (or_right (has out x) ((y == x) || false) (or_left (y == x) false q))
          | inr q ↦ or_right (has out x || ((y == x) || false)) _ (and_from (has xs x) (not (skip x)) q k.1)
        ])
      ])
]

pub once_firsts : (skip : ℕ → Bool) (out xs : List ℕ) → Once out → Once (fold (add_new skip) out xs)
once_firsts skip out [] a = a
once_firsts skip out (y ∷ xs) a = once_firsts skip (add_new skip out y) xs (elim (cases_Bool (skip y || has out y)) [
  | inl h ↦ subst Once (sym (add_old skip out y h)) a
  | inr h ↦ subst Once (sym (add_fresh skip out y h)) (once_push out y a (Rattle.std.proofs.lemmas.Bool.or_parts (skip y) (has out y) h).1)
])

pub flat_gives : (f : ℕ → List ℕ) (xs : List ℕ) (x : ℕ) → has (flat_map f xs) x ≡ true → (y : ℕ) × (has xs y ≡ true) × (has (f y) x ≡ true)
unfolding has
flat_gives f [] x h = absurd (false≢true h)
flat_gives f (y ∷ xs) x h = elim (or_cases (has (f y) x) (has (flat_map f xs) x) (sym (has_append (f y) (flat_map f xs) x) ∙ h)) [
  | inl a ↦ (y, or_left (y == y) (has xs y) (eq-eqb y y refl), a)
  | inr a ↦ (let r = flat_gives f xs x a in (r.0, or_right (y == r.0) (has xs r.0) r.1, r.2))
]

pub flat_from : (f : ℕ → List ℕ) (xs : List ℕ) (x y : ℕ) → has xs y ≡ true → has (f y) x ≡ true → has (flat_map f xs) x ≡ true
unfolding has
flat_from f [] x y h k = absurd (false≢true h)
flat_from f (z ∷ xs) x y h k = has_append (f z) (flat_map f xs) x ∙ elim (or_cases (z == y) (has xs y) h) [
  | inl q ↦ or_left (has (f z) x) (has (flat_map f xs) x) (ap (λ m. has (f m) x) (eqb-true z y q) ∙ k)
  | inr q ↦ or_right (has (f z) x) (has (flat_map f xs) x) (flat_from f xs x y q k)
]

pub last_passes : (p : ℕ → Bool) (d : ℕ) (xs : List ℕ) → p d ≡ true → p (last_that p d xs) ≡ true
unfolding last_that
last_passes p d [] h = h
last_passes p d (x ∷ xs) h = last_passes p (cond (p x) x d) xs
    (Rattle.std.proofs.lemmas.Bool.cond_both (p x) x d (λ m. p m ≡ true) (λ k. k) (λ k. h))

pub last_named : (p : ℕ → Bool) (d : ℕ) (xs : List ℕ) → (last_that p d xs ≡ d) ⊎ (has xs (last_that p d xs) ≡ true)
unfolding has last_that
last_named p d [] = inl refl
last_named p d (x ∷ xs) = elim (last_named p (cond (p x) x d) xs) [
  | inr k ↦ inr (or_right (x == last_that p (cond (p x) x d) xs) (has xs (last_that p (cond (p x) x d) xs)) k)
  | inl k ↦ elim (cases_Bool (p x)) [
    | inl h ↦ inr (or_left (x == last_that p (cond (p x) x d) xs) (has xs (last_that p (cond (p x) x d) xs))
        (eq-eqb x (last_that p (cond (p x) x d) xs) (sym (k ∙ cond-true (p x) x d h))))
    | inr h ↦ inl (k ∙ cond-false (p x) x d h)
  ]
]

-- the same one for tests that agree on the list, if one of it passes
pub last_same' : (p q : ℕ → Bool) (d e : ℕ) (xs : List ℕ) → ((x : ℕ) → has xs x ≡ true → p x ≡ q x) →
    ((d ≡ e) ⊎ ((x : ℕ) × (has xs x ≡ true) × (p x ≡ true))) → last_that p d xs ≡ last_that q e xs
unfolding has last_that
last_same' p q d e [] f (inl k) = k
last_same' p q d e [] f (inr k) = absurd (false≢true k.1)
last_same' p q d e (y ∷ xs) f h = let fy : p y ≡ q y = f y (or_left (y == y) (has xs y) (eq-eqb y y refl)) in
    last_same' p q (cond (p y) y d) (cond (q y) y e) xs (λ x k. f x (or_right (y == x) (has xs x) k)) (elim (cases_Bool (p y)) [
      | inl k ↦ inl (cond-true (p y) y d k ∙ sym (cond-true (q y) y e (sym fy ∙ k)))
      | inr k ↦ elim h [
        | inl m ↦ inl (cond-false (p y) y d k ∙ m ∙ sym (cond-false (q y) y e (sym fy ∙ k)))
        | inr m ↦ elim (or_cases (y == m.0) (has xs m.0) m.1) [
          | inl z ↦ clash m.2 (ap p (sym (eqb-true y m.0 z)) ∙ k)
          | inr z ↦ inr (m.0, z, m.2)
        ]
      ]
    ])

-- the pivot
walk : (ℕ → ℕ) → ℕ → ℕ → ℕ
walk bound r y = cond (Rattle.std.specs.Prelude.nat_le (bound y) (bound r)) y r

walk_le : (bound : ℕ → ℕ) (r y : ℕ) → (bound (walk bound r y) ≤ bound r) × (bound (walk bound r y) ≤ bound y)
    × ((walk bound r y ≡ r) ⊎ (walk bound r y ≡ y))
unfolding walk
walk_le bound r y = let t : Bool = Rattle.std.specs.Prelude.nat_le (bound y) (bound r) in elim (cases_Bool t) [
  | inl z ↦ (let e = cond-true t y r z in let m = ap bound e in let k = Rattle.std.proofs.lemmas.Bool.leb-true (bound y) (bound r) z in
      (omega (arith, m, k), omega (arith, m), inr e))
  | inr z ↦ (let e = cond-false t y r z in let m = ap bound e in let k = Rattle.std.proofs.lemmas.Bool.leb-false (bound y) (bound r) z in
      (omega (arith, m), omega (arith, m, k), inl e))
]

pub pivot_least : (bound : ℕ → ℕ) (c : ℕ) (xs : List ℕ) → (d : ℕ) → has (c ∷ xs) d ≡ true → bound (pivot bound (c ∷ xs)) ≤ bound d
unfolding pivot has walk
pivot_least bound c [] d h = elim (or_cases (c == d) false h) [
  | inl k ↦ (let e = ap bound (eqb-true c d k) in omega (arith, e))
  | inr k ↦ absurd (false≢true k)
]
pivot_least bound c (y ∷ ys) d h = let w = walk_le bound c y in let r : ℕ = walk bound c y in
    let first = pivot_least bound r ys r (or_left (r == r) (has ys r) (eq-eqb r r refl)) in
    elim (or_cases (c == d) (y == d || has ys d) h) [
      | inl k ↦ (let e = ap bound (eqb-true c d k) in let a = w.0 in omega (arith, e, a, first))
      | inr k ↦ elim (or_cases (y == d) (has ys d) k) [
        | inl m ↦ (let e = ap bound (eqb-true y d m) in let a = w.1 in omega (arith, e, a, first))
        | inr m ↦ pivot_least bound r ys d (or_right (r == d) (has ys d) m)
      ]
    ]

pub pivot_named : (bound : ℕ → ℕ) (c : ℕ) (xs : List ℕ) → has (c ∷ xs) (pivot bound (c ∷ xs)) ≡ true
unfolding pivot has walk
pivot_named bound c [] = or_left (c == c) false (eq-eqb c c refl)
pivot_named bound c (y ∷ ys) = let r : ℕ = walk bound c y in let p : ℕ = pivot bound (r ∷ ys) in
    elim (or_cases (r == p) (has ys p) (pivot_named bound r ys)) [
      | inr k ↦ or_right (c == p) (y == p || has ys p) (or_right (y == p) (has ys p) k)
      | inl k ↦ elim (walk_le bound c y).2 [
        | inl q ↦ or_left (c == p) (y == p || has ys p) (ap (λ m. m == p) (sym q) ∙ k)
        | inr q ↦ or_right (c == p) (y == p || has ys p) (or_left (y == p) (has ys p) (ap (λ m. m == p) (sym q) ∙ k))
      ]
    ]
