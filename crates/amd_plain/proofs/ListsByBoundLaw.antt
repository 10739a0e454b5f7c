-- The lists of the classes by bound stand for the order of placing: a round keeps that, and the pivot that they give is the one of
-- the rules.
use Rattle.std.proofs.Common.{ℕ, Bool, true, false, ◌≡◌, ◌≤◌, ◌<◌, ◌&&◌, ◌||◌, not, inl, inr, refl, sym, ◌∙◌, ap, subst, List, [], ◌∷◌}
use Rattle.std.proofs.Common.{◌++◌, Vec, Some, arith}
use Rattle.std.specs.Prelude.{filter, nat_lt, sum_by, ◌==◌}
use Rattle.std.proofs.Math.Bool.{or-false, and-true, and-false}
use Rattle.std.proofs.lemmas.Bool.{cases_Bool, cond-true, cond-false, cases_eq, cases_lt, cases_order, eq-eqb, ne_eqb, lt-ltb, or_left}
use Rattle.std.proofs.lemmas.Bool.{or_right, false≢true}
use Rattle.std.proofs.lemmas.List.{append-nil}
use Rattle.std.proofs.lemmas.List.Elements.{filter-append}
use Rattle.amd_model.specs.Graph.{Graph}
use Rattle.amd_model.specs.State.{State}
use Rattle.amd_model.specs.Quotient.{QuotientGraph, has, is_empty, Once, pivot}
use Rattle.amd_model.proofs.Quotient.Lists.{has_append, has_filter, once_filter, filter_yes, filter_no, some_of}
use Rattle.amd_model.proofs.Listings.Words.{filter_has, has_tail, has_left, has_right}
use Rattle.amd_model.proofs.Counting.Below.{clash}
use Rattle.amd_plain.specs.Views.{num, list_at}
use Rattle.amd_plain.specs.ListsByBound.{live_in, last_places, Popped, Chosen}
use Rattle.amd_plain.specs.Keeps.{PlainStands}
use Rattle.amd_plain.specs.declared.work.PlainWork.{PlainWork}
use Rattle.amd_round_laws.proofs.Lists.Named.{filter_named, filter_both, none_sum}
use Rattle.amd_round_laws.proofs.Lists.Pivots.{eq_flip, filters_on, choose_pivot}

-- ---- each number at its last place

lasts_old : (x : ℕ) (xs : List ℕ) → has xs x ≡ true → last_places (x ∷ xs) ≡ last_places xs
unfolding last_places
lasts_old x xs h = cond-true (has xs x) (last_places xs) (x ∷ last_places xs) h

lasts_new : (x : ℕ) (xs : List ℕ) → has xs x ≡ false → last_places (x ∷ xs) ≡ x ∷ last_places xs
unfolding last_places
lasts_new x xs h = cond-false (has xs x) (last_places xs) (x ∷ last_places xs) h

-- the same numbers are named
pub has_lasts : (xs : List ℕ) (x : ℕ) → has (last_places xs) x ≡ has xs x
unfolding has last_places
has_lasts [] x = refl
has_lasts (y ∷ ys) x = elim (cases_Bool (has ys y)) [
  | inl h ↦ ap (λ l. has l x) (lasts_old y ys h) ∙ has_lasts ys x ∙ elim (cases_eq y x) [
    | inl e ↦ (let k : has ys x ≡ true = ap (has ys) (sym e) ∙ h in k ∙ sym (has_tail x y ys k))
    | inr n ↦ sym (ap (λ b. b || has ys x) (ne_eqb y x n))
  ]
  | inr h ↦ ap (λ l. has l x) (lasts_new y ys h) ∙ ap (λ b. (y == x) || b) (has_lasts ys x)
]

-- a list without repeats stays
pub lasts_once : (xs : List ℕ) → Once xs → last_places xs ≡ xs
unfolding last_places
lasts_once [] h = refl
lasts_once (y ∷ ys) h = lasts_new y ys h.0 ∙ ap (λ l. y ∷ l) (lasts_once ys h.1)

-- of two lists, what the second names stands in the second alone
pub lasts_append : (xs ys : List ℕ) → last_places (xs ++ ys) ≡ filter (λ x. not (has ys x)) (last_places xs) ++ last_places ys
unfolding last_places
lasts_append [] ys = refl
lasts_append (x ∷ xs) ys = elim (cases_Bool (has xs x)) [
  | inl h ↦ lasts_old x (xs ++ ys) (has_left x xs ys h) ∙ lasts_append xs ys ∙
      sym (ap (λ l. filter (λ z. not (has ys z)) l ++ last_places ys) (lasts_old x xs h))
  | inr h ↦ elim (cases_Bool (has ys x)) [
    | inl k ↦ lasts_old x (xs ++ ys) (has_right x xs ys k) ∙ lasts_append xs ys
        ∙ sym (ap (λ l. filter (λ z. not (has ys z)) l ++ last_places ys) (lasts_new x xs h) ∙
        ap (λ l. l ++ last_places ys) (filter_no (λ z. not (has ys z)) x (last_places xs) (ap not k)))
    | inr k ↦ lasts_new x (xs ++ ys) (has_append xs ys x ∙ ap (λ b. b || has ys x) h ∙ k) ∙ ap (λ l. x ∷ l) (lasts_append xs ys)
        ∙ sym (ap (λ l. filter (λ z. not (has ys z)) l ++ last_places ys) (lasts_new x xs h) ∙
        ap (λ l. l ++ last_places ys) (filter_yes (λ z. not (has ys z)) x (last_places xs) (ap not k)))
  ]
]

-- what passes a test, each at its last place
pub lasts_filter : (p : ℕ → Bool) (xs : List ℕ) → last_places (filter p xs) ≡ filter p (last_places xs)
unfolding last_places
lasts_filter p [] = refl
lasts_filter p (x ∷ xs) = elim (cases_Bool (p x)) [
  | inl a ↦ (let named : has (filter p xs) x ≡ has xs x = has_filter p xs x ∙ ap (λ b. has xs x && b) a ∙ and-true (has xs x) in
      ap last_places (filter_yes p x xs a) ∙ elim (cases_Bool (has xs x)) [
        | inl h ↦ lasts_old x (filter p xs) (named ∙ h) ∙ lasts_filter p xs ∙ sym (ap (filter p) (lasts_old x xs h))
        | inr h ↦ lasts_new x (filter p xs) (named ∙ h) ∙ ap (λ l. x ∷ l) (lasts_filter p xs) ∙
            sym (ap (filter p) (lasts_new x xs h) ∙ filter_yes p x (last_places xs) a)
      ])
  | inr a ↦ ap last_places (filter_no p x xs a) ∙ lasts_filter p xs ∙ elim (cases_Bool (has xs x)) [
    | inl h ↦ sym (ap (filter p) (lasts_old x xs h))
    | inr h ↦ sym (ap (filter p) (lasts_new x xs h) ∙ filter_no p x (last_places xs) a)
  ]
]

-- a number is placed behind the others
pub lasts_push : (xs : List ℕ) (c : ℕ) → last_places (xs ++ c ∷ []) ≡ filter (λ x. not (x == c)) (last_places xs) ++ c ∷ []
unfolding has last_places
lasts_push xs c = lasts_append xs (c ∷ []) ∙ ap (λ l. l ++ c ∷ [])
    (filter_named (λ x. not (has (c ∷ []) x)) (λ x. not (x == c)) (last_places xs) (λ x h. ap not (or-false (c == x) ∙ eq_flip c x)))

-- ---- a round

-- the classes of a list from which the last one was taken
pub popped_live : (size bound : List ℕ) (b : ℕ) (old new : List ℕ) (c : ℕ) → Popped size bound b old new (Some c) →
    live_in size bound b old ≡ live_in size bound b new ++ c ∷ []
popped_live size bound b old new c h =
    let live = live_in size bound b in let is_class = λ (x : ℕ). nat_lt 0 (num size x) && num bound x == b in
    ap live h.1 ∙ filter-append is_class new (c ∷ h.0) ∙ ap (λ l. live new ++ l)
    (filter-append is_class (c ∷ []) h.0 ∙ ap (λ l. l ++ live h.0) h.2 ∙ ap (λ l. c ∷ l) h.3)

-- where c is left out, a list of which c is taken stays
lasts_without : (p : ℕ → Bool) (c : ℕ) (xs : List ℕ) → p c ≡ false → filter p (last_places (xs ++ c ∷ [])) ≡ filter p (last_places xs)
lasts_without p c xs f = ap (filter p) (lasts_push xs c) ∙ filter-append p (filter (λ x. not (x == c)) (last_places xs)) (c ∷ [])
    ∙ ap (λ l. filter p (filter (λ x. not (x == c)) (last_places xs)) ++ l) (filter_no p c [] f) ∙
    append-nil (filter p (filter (λ x. not (x == c)) (last_places xs)))
    ∙ sym (filter_both (λ x. not (x == c)) p (last_places xs)) ∙ filter_named (λ x. not (x == c) && p x) p (last_places xs)
    (λ x h. elim (cases_eq x c) [
      | inl e ↦ (let q : p x ≡ false = ap p e ∙ f in ap (λ b. not (x == c) && b) q ∙ and-false (not (x == c)) ∙ sym q)
      | inr n ↦ ap (λ b. not b && p x) (ne_eqb x c n)
    ])

-- the lists of the classes by bound, old, and after the class c was chosen, stand for the order of placing
module _ {A : Type 0} (size bound : List ℕ) (old mid : List (Vec ℕ A)) (before least c : ℕ) (placed : List ℕ) (bound_of : ℕ → ℕ)
    (chosen : Chosen size bound old mid before least c)
    (stands : (b : ℕ) → last_places (live_in size bound b (list_at old b)) ≡ filter (λ i. bound_of i == b) placed)
    (low : (i : ℕ) → has placed i ≡ true → before ≤ bound_of i) where
  -- no class has a bound below the one that was chosen
  pub least_low : (i : ℕ) → has placed i ≡ true → least ≤ bound_of i
  unfolding has last_places
  least_low i h = elim (cases_lt (bound_of i) least) [
    | inr l ↦ l
    | inl l ↦ (
        let none = (chosen.lower (bound_of i) (low i h) l).1 in
        let is = sym (stands (bound_of i)) ∙ ap last_places none in
        let named = filter_has (λ j. bound_of j == bound_of i) placed i h (eq-eqb (bound_of i) (bound_of i) refl) in
        clash named (ap (λ l. has l i) is))
  ]

  -- the class that was chosen is the pivot
  pub chosen_pivot : pivot bound_of placed ≡ c
  chosen_pivot =
      let live = live_in size bound least (list_at mid least) in
      choose_pivot bound_of placed least c (filter (λ x. not (x == c)) (last_places live)) least_low
      (sym (stands least) ∙ ap last_places (popped_live size bound least (list_at old least) (list_at mid least) c chosen.popped) ∙
      lasts_push live c)

  -- the class apart, the classes of each bound stay
  pub chosen_rest : (p : ℕ → Bool) → p c ≡ false → (b : ℕ) →
      filter p (last_places (live_in size bound b (list_at mid b))) ≡ filter p (last_places (live_in size bound b (list_at old b)))
  chosen_rest p f b = elim (cases_order b least) [
    | inl e ↦ subst (λ a. filter p (last_places (live_in size bound a (list_at mid a)))
        ≡ filter p (last_places (live_in size bound a (list_at old a))))
        (sym e)
        (sym (ap (λ l. filter p (last_places l)) (popped_live size bound least (list_at old least) (list_at mid least) c chosen.popped) ∙
        lasts_without p c (live_in size bound least (list_at mid least)) f))
    | inr k ↦ elim k [
      | inr l ↦ ap (λ l. filter p (last_places (live_in size bound b l))) (chosen.others b (inr l))
      | inl l ↦ elim (cases_lt b before) [
        | inl m ↦ ap (λ l. filter p (last_places (live_in size bound b l))) (chosen.others b (inl m))
        | inr m ↦ (let both = chosen.lower b m l in ap (λ l. filter p (last_places (live_in size bound b l))) both.0 ∙
            sym (ap (λ l. filter p (last_places l)) both.1))
      ]
    ]
  ]

  -- after the round: the classes `made` of the list `front` are placed behind the others with their new bounds, and the other
  -- classes of `front` have ended, as c has
  module _ (new : List (Vec ℕ A)) (sizes bounds front made : List ℕ) (bound_after : ℕ → ℕ)
      (placing : (b : ℕ) → list_at new b ≡ list_at mid b ++ filter (λ i. num bounds i == b) made)
      (made_once : Once made)
      (of_front : (i : ℕ) → has made i ≡ true → has front i ≡ true)
      (stay : (i : ℕ) → (i == c || has front i) ≡ false → (num sizes i ≡ num size i) × (num bounds i ≡ num bound i))
      (made_live : (i : ℕ) → has made i ≡ true → 0 < num sizes i)
      (ended : (i : ℕ) → (i == c || has front i) ≡ true → has made i ≡ false → num sizes i ≡ 0)
      (bound_is : (i : ℕ) → has placed i ≡ true → bound_of i ≡ num bound i)
      (after_is : (i : ℕ) → has (filter (λ i. not (i == c || has front i)) placed ++ made) i ≡ true → bound_after i ≡ num bounds i) where
    -- of the classes that were placed before, those of a bound are those that had it and have neither ended nor been placed anew
    still : (b x : ℕ) → ((nat_lt 0 (num sizes x) && num bounds x == b) && not (has (filter (λ i. num bounds i == b) made) x))
        ≡ ((nat_lt 0 (num size x) && num bound x == b) && not (x == c || has front x))
    still b x =
        let live : Bool = nat_lt 0 (num sizes x) && num bounds x == b in
        let was_live : Bool = nat_lt 0 (num size x) && num bound x == b in
        let again : Bool = has (filter (λ i. num bounds i == b) made) x in
        let again_is : again ≡ (has made x && num bounds x == b) = has_filter (λ i. num bounds i == b) made x in
        elim (cases_Bool (x == c || has front x)) [
          | inr out ↦ (
              let kept = stay x out in
              let not_made : has made x ≡ false = elim (cases_Bool (has made x)) [
                | inr k ↦ k
                | inl k ↦ clash (or_right (x == c) (has front x) (of_front x k)) out
              ] in
              let same : live ≡ was_live = ap (λ n. nat_lt 0 n && num bounds x == b) kept.0 ∙
              ap (λ n. nat_lt 0 (num size x) && n == b) kept.1 in
              ap (λ t. live && not t) (again_is ∙ ap (λ t. t && num bounds x == b) not_made) ∙ and-true live ∙ same ∙
              sym (ap (λ t. was_live && not t) out ∙ and-true was_live))
          | inl inside ↦ elim (cases_Bool (has made x)) [
            | inl k ↦ ap (λ t. live && not t) (again_is ∙ ap (λ t. t && num bounds x == b) k) ∙
                and_own (nat_lt 0 (num sizes x)) (num bounds x == b) ∙ sym (ap (λ t. was_live && not t) inside ∙ and-false was_live)
            | inr k ↦ ap (λ n. (nat_lt 0 n && num bounds x == b) && not again) (ended x inside k) ∙
                sym (ap (λ t. was_live && not t) inside ∙ and-false was_live)
          ]
        ]
      where
        and_own : (a b : Bool) → ((a && b) && not b) ≡ false
        and_own true true = refl
        and_own true false = refl
        and_own false b = refl

    -- the lists of the classes by bound stand for the new order of placing
    pub by_bound_step : (b : ℕ) → last_places (live_in sizes bounds b (list_at new b)) ≡ filter (λ i. bound_after i == b)
        (filter (λ i. not (i == c || has front i)) placed ++ made)
    by_bound_step b =
        let live = λ (x : ℕ). nat_lt 0 (num sizes x) && num bounds x == b in
        let was_live = λ (x : ℕ). nat_lt 0 (num size x) && num bound x == b in
        let other = λ (i : ℕ). not (i == c || has front i) in
        let again : List ℕ = filter (λ i. num bounds i == b) made in
        let before_list : List ℕ = list_at mid b in
        -- those that are placed again
        let again_live : filter live again ≡ again = sym (filter_both (λ i. num bounds i == b) live made)
        ∙ filter_named (λ x. num bounds x == b && live x) (λ i. num bounds i == b) made
        (λ x h. and_same (nat_lt 0 (num sizes x)) (num bounds x == b) (lt-ltb 0 (num sizes x) (made_live x h))) in
        let again_after : again ≡ filter (λ i. bound_after i == b) made =
        filter_named (λ i. num bounds i == b) (λ i. bound_after i == b) made
        (λ x h. ap (λ n. n == b) (sym (after_is x (has_right x (filter other placed) made h)))) in
        -- the others
        let other_c : other c ≡ false = ap not (or_left (c == c) (has front c) (eq-eqb c c refl)) in
        let rest : filter (λ x. not (has again x)) (last_places (filter live before_list)) ≡ filter other (filter (λ i. bound_of i == b)
        placed) =
        ap (filter (λ x. not (has again x))) (lasts_filter live before_list)
        ∙ filters_on (λ x. not (has again x)) live other was_live (last_places before_list) (λ x h. still b x)
        ∙ ap (filter other) (sym (lasts_filter was_live before_list))
        ∙ chosen_rest other other_c b ∙ ap (filter other) (stands b) in
        let rest_after : filter other (filter (λ i. bound_of i == b) placed) ≡ filter (λ i. bound_after i == b) (filter other placed) =
        filters_on other (λ i. bound_of i == b) (λ i. bound_after i == b) other placed (λ x h. agree b x h) in
        ap (λ l. last_places (filter live l)) (placing b) ∙ ap last_places
        (filter-append live before_list again ∙ ap (λ l. filter live before_list ++ l) again_live)
        ∙ lasts_append (filter live before_list) again
        ∙ ap (λ l. filter (λ x. not (has again x)) (last_places (filter live before_list)) ++ l)
        (lasts_once again (once_filter (λ i. num bounds i == b) made made_once) ∙ again_after)
        ∙ ap (λ l. l ++ filter (λ i. bound_after i == b) made) (rest ∙ rest_after)
        ∙ sym (filter-append (λ i. bound_after i == b) (filter other placed) made)
      where
        and_same : (a b : Bool) → a ≡ true → (b && (a && b)) ≡ b
        and_same true true h = refl
        and_same true false h = refl
        and_same false b h = absurd (false≢true h)

        agree : (b x : ℕ) → has placed x ≡ true → (bound_of x == b && not (x == c || has front x)) ≡
            (not (x == c || has front x) && bound_after x == b)
        agree b x h = elim (cases_Bool (x == c || has front x)) [
          | inl inside ↦ ap (λ t. bound_of x == b && not t) inside ∙ and-false (bound_of x == b) ∙
              sym (ap (λ t. not t && bound_after x == b) inside)
          | inr out ↦ (
              let other = λ (i : ℕ). not (i == c || has front i) in
              let stays : has (filter other placed) x ≡ true = filter_has other placed x h (ap not out) in
              let same : bound_of x ≡ bound_after x = bound_is x h ∙ sym (stay x out).1 ∙
              sym (after_is x (has_left x (filter other placed) made stays)) in
              ap (λ t. bound_of x == b && not t) out ∙ and-true (bound_of x == b) ∙ ap (λ n. n == b) same ∙
              sym (ap (λ t. not t && bound_after x == b) out))
        ]

-- a class stands in the list of its bound, if a row is live
pub some_class : {A : Type 0} (g : Graph) (dense : ℕ → Bool) (w : PlainWork A) (t : QuotientGraph) (s : State) → PlainStands g dense w t s →
    0 < w.live →
    (b : ℕ) × (i : ℕ) × (w.least ≤ b) × (has (live_in w.size.items w.bound.items b (list_at w.placed.items b)) i ≡ true)
some_class g dense w t s st l =
    let some = some_of t.placed (elim (cases_Bool (is_empty t.placed)) [
      | inr n ↦ n
      | inl y ↦ absurd (let e = none_sum t.size t.placed y in let k : w.live ≡ sum_by t.size t.placed =
          st.view.keeps.live in omega (arith, e, k, l))
    ]) in
    let i : ℕ = some.0 in let b : ℕ = t.bound some.0 in (
      b,
      i,
      st.view.keeps.least i some.1,
      sym (has_lasts (live_in w.size.items w.bound.items b (list_at w.placed.items b)) i) ∙ ap (λ xs. has xs i) (st.placed b)
          ∙ filter_has (λ j. t.bound j == b) t.placed i some.1 (eq-eqb b b refl),
    )
