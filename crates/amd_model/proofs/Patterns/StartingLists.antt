-- The starting list of a row names its neighbours, each once.
use Rattle.std.proofs.Common.{ℕ, zero, suc, Bool, true, false, ◌≡◌, ◌≢◌, ◌<◌, ◌≤◌, ◌&&◌, ◌||◌, not, cond, ◌⊎◌, inl, inr, refl, sym, ◌∙◌, ap}
use Rattle.std.proofs.Common.{subst, arith, List, [], ◌∷◌, ◌++◌, map}
use Rattle.std.specs.Prelude.{ℤ, ◌==◌, nat_le, nat_lt, flat_map}
use Rattle.std.proofs.lemmas.Bool.{cases_Bool, cases_eq, cases_lt, false≢true, and_from, and_parts, eqb-true, eq-eqb, ne_eqb}
use Rattle.std.proofs.lemmas.Bool.{not_from_false, not-true, or_cases, or_left, or_right, lt-ltb, ltb-true, le-leb, leb-true}
use Rattle.std.proofs.lemmas.Grind.{flat_map-append}
use Rattle.std.specs.Cmp.{both_ways}
use Rattle.amd_model.specs.Below.{any_below, list_below}
use Rattle.amd_model.specs.Input.Pattern.{graph_of, is_pair, holds_row}
use Rattle.amd_model.specs.Quotient.{Once, has, was_read, met_below, met_at, met_edges, other_end, starting_list}
use Rattle.amd_model.specs.QuotientLaws.{StartingLists}
use Rattle.amd_model.proofs.Counting.Below.{any_none, clash}
use Rattle.amd_model.proofs.Quotient.Lists.{has_append, once_append, flat_gives, flat_from}
use Rattle.amd_model.proofs.Quotient.Start.{has_below, once_below}

-- ---- lists of lists

flat_of_map : {X : Type 0} (f : X → List ℕ) (h : ℕ → X) (xs : List ℕ) → flat_map f (map h xs) ≡ flat_map (λ y. f (h y)) xs
flat_of_map f h [] = refl
flat_of_map f h (x ∷ xs) = ap (λ ys. f (h x) ++ ys) (flat_of_map f h xs)

flat_of_flat : {X : Type 0} (f : X → List ℕ) (h : ℕ → List X) (xs : List ℕ) →
    flat_map f (flat_map h xs) ≡ flat_map (λ y. flat_map f (h y)) xs
flat_of_flat f h [] = refl
flat_of_flat f h (x ∷ xs) = flat_map-append f (h x) (flat_map h xs) ∙ ap (λ ys. flat_map f (h x) ++ ys) (flat_of_flat f h xs)

flat_same : (f h : ℕ → List ℕ) (xs : List ℕ) → ((y : ℕ) → f y ≡ h y) → flat_map f xs ≡ flat_map h xs
flat_same f h [] e = refl
flat_same f h (x ∷ xs) e = ap (λ ys. ys ++ flat_map f xs) (e x) ∙ ap (λ ys. h x ++ ys) (flat_same f h xs e)

-- lists that share no number make a list that names each number once
once_flat : (f : ℕ → List ℕ) (xs : List ℕ) → Once xs → ((y : ℕ) → has xs y ≡ true → Once (f y)) →
    ((y z x : ℕ) → has xs y ≡ true → has xs z ≡ true → has (f y) x ≡ true → has (f z) x ≡ true → y ≡ z) → Once (flat_map f xs)
unfolding has
once_flat f [] o each apart = tt
once_flat f (y ∷ xs) o each apart =
    let here = or_left (y == y) (has xs y) (eq-eqb y y refl) in
    once_append (f y) (flat_map f xs) (each y here)
    (once_flat f xs o.1 (λ z h. each z (or_right (y == z) (has xs z) h))
    (λ z u x hz hu. apart z u x (or_right (y == z) (has xs z) hz) (or_right (y == u) (has xs u) hu)))
    (λ x h k. let r = flat_gives f xs x k in let e = apart y r.0 x here (or_right (y == r.0) (has xs r.0) r.1) h r.2 in
    clash (ap (has xs) e ∙ r.1) o.0)

-- the least number that passes
least_below : (n : ℕ) (p : ℕ → Bool) → any_below n p ≡ true → (k : ℕ) × (k < n) × (p k ≡ true) × (any_below k p ≡ false)
unfolding any_below
least_below zero p h = absurd (false≢true h)
least_below (suc n) p h = elim (cases_Bool (any_below n p)) [
  | inl a ↦ (let r = least_below n p a in (r.0, omega (arith, r.1), r.2, r.3))
  | inr a ↦ elim (or_cases (p n) (any_below n p) h) [ inl b ↦ (n, omega arith, b, a) | inr b ↦ clash b a ]
]

-- ---- the two ends of an edge

record Key (i x a b : ℕ) : Type 0 where
  rising : a < b
  ends : ((i ≡ a) × (x ≡ b)) ⊎ ((i ≡ b) × (x ≡ a))

key_same : {i x a b c d : ℕ} → Key i x a b → Key i x c d → (a ≡ c) × (b ≡ d)
key_same h k = let l = h.rising in let m = k.rising in elim h.ends [
  | inl p ↦ elim k.ends [ inl q ↦ (sym p.0 ∙ q.0, sym p.1 ∙ q.1) | inr q ↦ absurd (omega (arith, l, m, p.0, p.1, q.0, q.1)) ]
  | inr p ↦ elim k.ends [ inl q ↦ absurd (omega (arith, l, m, p.0, p.1, q.0, q.1)) | inr q ↦ (sym p.1 ∙ q.1, sym p.0 ∙ q.0) ]
]

end_gives : (i x a b : ℕ) → has (other_end i (a, b)) x ≡ true → ((i ≡ a) × (x ≡ b)) ⊎ ((i ≡ b) × (x ≡ a))
unfolding other_end has
end_gives i x a b h = elim (cases_Bool (a == i)) [
  | inl p ↦ elim (or_cases (b == x) false (sym (ap (λ c. has (cond c (b ∷ []) (cond (b == i) (a ∷ []) [])) x) p) ∙ h)) [
    | inl q ↦ inl (sym (eqb-true a i p), sym (eqb-true b x q))
    | inr q ↦ absurd (false≢true q)
  ]
  | inr p ↦ (let h' = sym (ap (λ c. has (cond c (b ∷ []) (cond (b == i) (a ∷ []) [])) x) p) ∙ h in elim (cases_Bool (b == i)) [
    | inl r ↦ elim (or_cases (a == x) false (sym (ap (λ c. has (cond c (a ∷ []) []) x) r) ∙ h')) [
      | inl q ↦ inr (sym (eqb-true b i r), sym (eqb-true a x q))
      | inr q ↦ absurd (false≢true q)
    ]
    | inr r ↦ absurd (false≢true (sym (ap (λ c. has (cond c (a ∷ []) []) x) r) ∙ h'))
  ])
]

end_from : (i x a b : ℕ) → a ≢ b → ((i ≡ a) × (x ≡ b)) ⊎ ((i ≡ b) × (x ≡ a)) → has (other_end i (a, b)) x ≡ true
unfolding other_end has
end_from i x a b ne (inl p) = ap (λ c. has (cond c (b ∷ []) (cond (b == i) (a ∷ []) [])) x) (eq-eqb a i (sym p.0)) ∙
    or_left (b == x) false (eq-eqb b x (sym p.1))
end_from i x a b ne (inr p) = ap (λ c. has (cond c (b ∷ []) (cond (b == i) (a ∷ []) [])) x) (ne_eqb a i (λ q. ne (q ∙ p.0)))
    ∙ ap (λ c. has (cond c (a ∷ []) []) x) (eq-eqb b i (sym p.0)) ∙ or_left (a == x) false (eq-eqb a x (sym p.1))

end_once : (i a b : ℕ) → Once (other_end i (a, b))
unfolding other_end has
end_once i a b = first (a == i) (b == i)
  where
    first : (p q : Bool) → Once (cond p (b ∷ []) (cond q (a ∷ []) []))
    first true q = (refl, tt)
    first false true = (refl, tt)
    first false false = tt

-- ---- the reading of a pattern

module _ (n : ℕ) (pair : ℕ → ℕ → Bool) (small : (a b : ℕ) → pair a b ≡ true → (a < n) × (b < n)) (i : ℕ) where
  was_gives : (k j r : ℕ) → was_read pair k j r ≡ false → (c : ℕ) → c < k → r ≤ c → pair j c ≡ true → ⊥
  unfolding was_read
  was_gives k j r h c l m p = clash (and_from (nat_le r c) (pair j c) (le-leb r c m) p) (any_none k (λ c. nat_le r c && pair j c) h c l)

  unread : ℕ → ℕ → ℕ → Bool
  unread k j r = nat_lt j r && pair r j && not (was_read pair k j r)

  lower : ℕ → ℕ → List ℕ
  lower k j = flat_map (λ r. other_end i (r, j)) (list_below k (unread k j))

  here : ℕ → ℕ → List ℕ
  here k j = other_end i (j, k) ++ lower k j

  column : ℕ → List ℕ
  column k = flat_map (here k) (list_below k (λ j. pair j k))

  lower_is : (k j : ℕ) → flat_map (other_end i) (met_below pair k j) ≡ lower k j
  unfolding met_below lower unread
  lower_is k j = flat_of_map (other_end i) (λ r. (r, j)) (list_below k (unread k j))

  column_is : (k : ℕ) → flat_map (other_end i) (met_at pair k) ≡ column k
  unfolding met_at column here
  column_is k = flat_of_flat (other_end i) (λ j. (j, k) ∷ met_below pair k j) (list_below k (λ j. pair j k))
      ∙ flat_same (λ j. flat_map (other_end i) ((j, k) ∷ met_below pair k j)) (here k) (list_below k (λ j. pair j k))
      (λ j. ap (λ ys. other_end i (j, k) ++ ys) (lower_is k j))

  first_part : List ℕ
  first_part = flat_map column (list_below n (λ k. true))

  last_part : List ℕ
  last_part = flat_map (lower n) (list_below n (λ j. true))

  list_is : starting_list n pair i ≡ first_part ++ last_part
  unfolding starting_list met_edges first_part last_part
  list_is = let all : List ℕ = list_below n (λ k. true) in
      flat_map-append (other_end i) (flat_map (met_at pair) all) (flat_map (met_below pair n) all)
      ∙ ap (λ ys. ys ++ flat_map (other_end i) (flat_map (met_below pair n) all))
      (flat_of_flat (other_end i) (met_at pair) all ∙ flat_same (λ k. flat_map (other_end i) (met_at pair k)) column all column_is)
      ∙ ap (λ ys. first_part ++ ys) (flat_of_flat (other_end i) (met_below pair n) all ∙
      flat_same (λ j. flat_map (other_end i) (met_below pair n j)) (lower n) all (lower_is n))

  -- what is met as a lower entry of column j, when column k is read
  record Lower (k j x : ℕ) : Type 0 where
    row : ℕ
    key : Key i x j row
    within : row < k
    entry : pair row j ≡ true
    fresh : was_read pair k j row ≡ false

  lower_row : (k j r : ℕ) → has (list_below k (unread k j)) r ≡ true → (r < k) × (j < r) × (pair r j ≡ true) × (was_read pair k j r ≡ false)
  unfolding unread
  lower_row k j r h =
      let p = and_parts (nat_lt r k) (nat_lt j r && pair r j && not (was_read pair k j r)) (sym (has_below k (unread k j) r) ∙ h) in
      let q = and_parts (nat_lt j r && pair r j) (not (was_read pair k j r)) p.1 in let m = and_parts (nat_lt j r) (pair r j) q.0 in
      (ltb-true r k p.0, ltb-true j r m.0, m.1, not-true (was_read pair k j r) q.1)

  lower_key : (x j r : ℕ) → j < r → has (other_end i (r, j)) x ≡ true → Key i x j r
  lower_key x j r l h = record { rising = l; ends = elim (end_gives i x r j h) [ inl p ↦ inr p | inr p ↦ inl p ] }

  lower_gives : (k j x : ℕ) → has (lower k j) x ≡ true → Lower k j x
  unfolding lower
  lower_gives k j x h = let r = flat_gives (λ r. other_end i (r, j)) (list_below k (unread k j)) x h in let m = lower_row k j r.0 r.1 in
      record { row = r.0; key = lower_key x j r.0 m.1 r.2; within = m.0; entry = m.2; fresh = m.3 }

  lower_from : (k j x : ℕ) → Lower k j x → has (lower k j) x ≡ true
  unfolding lower unread
  lower_from k j x m = let r : ℕ = m.row in let l = m.key.rising in
      flat_from (λ r. other_end i (r, j)) (list_below k (unread k j)) x r
      (has_below k (unread k j) r ∙ and_from (nat_lt r k) (nat_lt j r && pair r j && not (was_read pair k j r)) (lt-ltb r k m.within)
      (and_from (nat_lt j r && pair r j) (not (was_read pair k j r)) (and_from (nat_lt j r) (pair r j) (lt-ltb j r l) m.entry)
      (not_from_false (was_read pair k j r) m.fresh)))
      (end_from i x r j (λ q. omega (arith, q, l)) (elim m.key.ends [ inl p ↦ inr p | inr p ↦ inl p ]))

  lower_once : (k j : ℕ) → Once (lower k j)
  unfolding lower
  lower_once k j = once_flat (λ r. other_end i (r, j)) (list_below k (unread k j)) (once_below k (unread k j)) (λ r h. end_once i r j)
      (λ r q x hr hq a b. (key_same (lower_key x j r (lower_row k j r hr).1 a) (lower_key x j q (lower_row k j q hq).1 b)).1)

  -- what is met when column k comes to its entry (j, k)
  record Here (k j x : ℕ) : Type 0 where
    row : ℕ
    key : Key i x j row
    how : (row ≡ k) ⊎ ((row < k) × (pair row j ≡ true) × (was_read pair k j row ≡ false))

  upper_here : (k j x : ℕ) → j < k → has (other_end i (j, k)) x ≡ true → Here k j x
  upper_here k j x l h = record { row = k; key = record { rising = l; ends = end_gives i x j k h }; how = inl refl }

  lower_here : (k j x : ℕ) → Lower k j x → Here k j x
  lower_here k j x m = record { row = m.row; key = m.key; how = inr (m.within, m.entry, m.fresh) }

  here_gives : (k j x : ℕ) → j < k → has (here k j) x ≡ true → Here k j x
  unfolding here
  here_gives k j x l h =
      elim (or_cases (has (other_end i (j, k)) x) (has (lower k j) x) (sym (has_append (other_end i (j, k)) (lower k j) x) ∙ h)) [
        | inl a ↦ upper_here k j x l a
        | inr a ↦ lower_here k j x (lower_gives k j x a)
      ]

  here_once : (k j : ℕ) → j < k → Once (here k j)
  unfolding here
  here_once k j l = once_append (other_end i (j, k)) (lower k j) (end_once i j k) (lower_once k j)
      (λ x h m. let a = (upper_here k j x l h).key in let b = lower_gives k j x m in
      let e = (key_same (record { rising = l; ends = end_gives i x j k h }) b.key).1 in let w = b.within in omega (arith, e, w))

  -- what is met when column k is read
  record Met (k x : ℕ) : Type 0 where
    least : ℕ
    before : least < k
    entry : pair least k ≡ true
    at : Here k least x

  column_row : (k j : ℕ) → has (list_below k (λ j. pair j k)) j ≡ true → (j < k) × (pair j k ≡ true)
  column_row k j h = let p = and_parts (nat_lt j k) (pair j k) (sym (has_below k (λ j. pair j k) j) ∙ h) in (ltb-true j k p.0, p.1)

  column_gives : (k x : ℕ) → has (column k) x ≡ true → Met k x
  unfolding column
  column_gives k x h = let r = flat_gives (here k) (list_below k (λ j. pair j k)) x h in let m = column_row k r.0 r.1 in
      record { least = r.0; before = m.0; entry = m.1; at = here_gives k r.0 x m.0 r.2 }

  column_from : (k j x : ℕ) → j < k → pair j k ≡ true → has (here k j) x ≡ true → has (column k) x ≡ true
  unfolding column
  column_from k j x l p h = flat_from (here k) (list_below k (λ j. pair j k)) x j
      (has_below k (λ j. pair j k) j ∙ and_from (nat_lt j k) (pair j k) (lt-ltb j k l) p) h

  column_once : (k : ℕ) → Once (column k)
  unfolding column
  column_once k = once_flat (here k) (list_below k (λ j. pair j k)) (once_below k (λ j. pair j k))
      (λ j h. here_once k j (column_row k j h).0)
      (λ j q x hj hq a b. (key_same (here_gives k j x (column_row k j hj).0 a).key (here_gives k q x (column_row k q hq).0 b).key).0)

  -- two columns do not meet the same edge, nor does the reading at the end
  not_later : (k m x : ℕ) → Met k x → Met m x → k < m → ⊥
  not_later k m x a b l = let same = key_same a.at.key b.at.key in let r : ℕ = b.at.row in
      let top : r ≤ k = elim a.at.how [
        | inl e ↦ (let f = same.1 in omega (arith, e, f))
        | inr e ↦ (let f = same.1 in let g = e.0 in omega (arith, f, g))
      ] in
      elim b.at.how [
        | inl e ↦ omega (arith, e, top, l)
        | inr e ↦ was_gives m b.least r e.2 k l top (ap (λ j. pair j k) (sym same.0) ∙ a.entry)
      ]

  not_last : (k j x : ℕ) → k < n → Met k x → Lower n j x → ⊥
  not_last k j x l a b = let same = key_same a.at.key b.key in
      let top : b.row ≤ k = elim a.at.how [
        | inl e ↦ (let f = same.1 in omega (arith, e, f))
        | inr e ↦ (let f = same.1 in let g = e.0 in omega (arith, f, g))
      ] in
      was_gives n j b.row b.fresh k l top (ap (λ j. pair j k) (sym same.0) ∙ a.entry)

  all_small : (k : ℕ) → has (list_below n (λ k. true)) k ≡ true → k < n
  all_small k h = ltb-true k n (and_parts (nat_lt k n) true (sym (has_below n (λ k. true) k) ∙ h)).0

  all_from : (k : ℕ) → k < n → has (list_below n (λ k. true)) k ≡ true
  all_from k l = has_below n (λ k. true) k ∙ and_from (nat_lt k n) true (lt-ltb k n l) refl

  columns_once : Once first_part
  unfolding first_part
  columns_once = once_flat column (list_below n (λ k. true)) (once_below n (λ k. true)) (λ k h. column_once k)
      (λ k m x hk hm a b. let p = column_gives k x a in let q = column_gives m x b in elim (cases_lt k m) [
        | inl l ↦ absurd (not_later k m x p q l)
        | inr l ↦ elim (cases_eq k m) [ inl e ↦ e | inr ne ↦ absurd (not_later m k x q p (omega (arith, l, ne))) ]
      ])

  rest_once : Once last_part
  unfolding last_part
  rest_once = once_flat (lower n) (list_below n (λ j. true)) (once_below n (λ j. true)) (λ j h. lower_once n j)
      (λ j q x hj hq a b. (key_same (lower_gives n j x a).key (lower_gives n q x b).key).0)

  pub list_once : Once (starting_list n pair i)
  unfolding first_part last_part
  list_once = subst Once (sym list_is) (once_append first_part last_part columns_once rest_once
      (λ x h k. let r = flat_gives column (list_below n (λ k. true)) x h in
      let s = flat_gives (lower n) (list_below n (λ k. true)) x k in
      not_last r.0 s.0 x (all_small r.0 r.1) (column_gives r.0 x r.2) (lower_gives n s.0 x s.2)))

  -- an edge between the rows of a key
  joins : {x a b : ℕ} → Key i x a b → (pair a b ≡ true) ⊎ (pair b a ≡ true) → (not (i == x) && (pair i x || pair x i)) ≡ true
  joins {x} {a} {b} key p = let l = key.rising in elim key.ends [
    | inl e ↦ and_from (not (i == x)) (pair i x || pair x i) (not_from_false (i == x) (ne_eqb i x (λ q. omega (arith, q, l, e.0, e.1))))
        (elim p [
          | inl h ↦ or_left (pair i x) (pair x i) (subst (λ m. pair m x ≡ true) (sym e.0) (subst (λ m. pair a m ≡ true) (sym e.1) h))
          | inr h ↦ or_right (pair i x) (pair x i) (subst (λ m. pair x m ≡ true) (sym e.0) (subst (λ m. pair m a ≡ true) (sym e.1) h))
        ])
    | inr e ↦ and_from (not (i == x)) (pair i x || pair x i) (not_from_false (i == x) (ne_eqb i x (λ q. omega (arith, q, l, e.0, e.1))))
        (elim p [
          | inl h ↦ or_right (pair i x) (pair x i) (subst (λ m. pair x m ≡ true) (sym e.0) (subst (λ m. pair m b ≡ true) (sym e.1) h))
          | inr h ↦ or_left (pair i x) (pair x i) (subst (λ m. pair m x ≡ true) (sym e.0) (subst (λ m. pair b m ≡ true) (sym e.1) h))
        ])
  ]

  in_first : (k x : ℕ) → k < n → has (column k) x ≡ true → has (starting_list n pair i) x ≡ true
  unfolding first_part
  in_first k x l h = ap (λ ys. has ys x) list_is ∙ has_append first_part last_part x ∙
      or_left (has first_part x) (has last_part x) (flat_from column (list_below n (λ k. true)) x k (all_from k l) h)

  in_last : (j x : ℕ) → j < n → has (lower n j) x ≡ true → has (starting_list n pair i) x ≡ true
  unfolding last_part
  in_last j x l h = ap (λ ys. has ys x) list_is ∙ has_append first_part last_part x ∙
      or_right (has first_part x) (has last_part x) (flat_from (lower n) (list_below n (λ j. true)) x j (all_from j l) h)

  -- the lesser row of an edge meets it in the column of the greater one, where it stands there, and else when it reads its own column
  meets : {x a b : ℕ} → Key i x a b → (pair a b ≡ true) ⊎ (pair b a ≡ true) → has (starting_list n pair i) x ≡ true
  unfolding here was_read
  meets {x} {a} {b} key p = let l = key.rising in elim (cases_Bool (pair a b)) [
    | inl up ↦ in_first b x (small a b up).1 (column_from b a x l up (has_append (other_end i (a, b)) (lower b a) x
        ∙ or_left (has (other_end i (a, b)) x) (has (lower b a) x) (end_from i x a b (λ q. omega (arith, q, l)) key.ends)))
    | inr down ↦ (let e : pair b a ≡ true = elim p [ inl h ↦ clash h down | inr h ↦ h ] in elim (cases_Bool (was_read pair n a b)) [
      | inr fresh ↦ in_last a x (small b a e).1
          (lower_from n a x (record { row = b; key = key; within = (small b a e).0; entry = e; fresh = fresh }))
      | inl read ↦ (let k = least_below n (λ c. nat_le b c && pair a c) read in
          let q = and_parts (nat_le b k.0) (pair a k.0) k.2 in let le = leb-true b k.0 q.0 in
          let ne : b ≢ k.0 = λ s. clash (ap (pair a) s ∙ q.1) down in
          let within : b < k.0 = omega (arith, le, ne) in
          in_first k.0 x k.1 (column_from k.0 a x (omega (arith, l, within)) q.1 (has_append (other_end i (a, k.0)) (lower k.0 a) x
          ∙ or_right (has (other_end i (a, k.0)) x) (has (lower k.0 a) x)
          (lower_from k.0 a x (record { row = b; key = key; within = within; entry = e; fresh = k.3 })))))
    ])
  ]

  pub list_names : (x : ℕ) → has (starting_list n pair i) x ≡ (not (i == x) && (pair i x || pair x i))
  unfolding first_part last_part
  list_names x = both_ways (has (starting_list n pair i) x) (not (i == x) && (pair i x || pair x i))
      (λ h. elim (or_cases (has first_part x) (has last_part x)
      (sym (has_append first_part last_part x) ∙ sym (ap (λ ys. has ys x) list_is) ∙ h)) [
        | inl a ↦ (let r = flat_gives column (list_below n (λ k. true)) x a in let m = column_gives r.0 x r.2 in
            joins m.at.key (elim m.at.how [
              | inl e ↦ inl (ap (pair m.least) e ∙ m.entry)
              | inr e ↦ inr e.1
            ]))
        | inr a ↦ (let r = flat_gives (lower n) (list_below n (λ j. true)) x a in let m = lower_gives n r.0 x r.2 in
            joins m.key (inr m.entry))
      ])
      (λ h. let q = and_parts (not (i == x)) (pair i x || pair x i) h in
      let ne : i ≢ x = λ e. clash (eq-eqb i x e) (not-true (i == x) q.0) in
      elim (cases_lt i x) [
        | inl l ↦ meets (record { rising = l; ends = inl (refl, refl) }) (or_cases (pair i x) (pair x i) q.1)
        | inr l ↦ meets (record { rising = omega (arith, l, ne); ends = inr (refl, refl) })
            (elim (or_cases (pair i x) (pair x i) q.1) [ inl y ↦ inr y | inr y ↦ inl y ])
      ])

pub pair_small : (n : ℕ) (ap ai : List ℤ) (a b : ℕ) → is_pair n ap ai a b ≡ true → (a < n) × (b < n)
unfolding is_pair
pair_small n pointers rows a b h = let p = and_parts (nat_lt a n && nat_lt b n) (holds_row pointers rows b a) h in
    let q = and_parts (nat_lt a n) (nat_lt b n) p.0 in
    (ltb-true a n q.0, ltb-true b n q.1)

pub starting_lists : StartingLists
unfolding graph_of
starting_lists n pointers rows i = record {
  named = list_names n (is_pair n pointers rows) (pair_small n pointers rows) i;
  once = list_once n (is_pair n pointers rows) (pair_small n pointers rows) i;
}
