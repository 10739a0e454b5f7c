-- The lists by bound: the classes of a bound, the one placed last first. From an order of placing to the next one.
use Rattle.std.proofs.Common.{ℕ, Bool, true, false, List, [], ◌∷◌, ◌++◌, ◌≡◌, ◌<◌, ◌≤◌, ◌∙◌, ◌||◌, ◌&&◌, not, filter, reverse, ap, sym}
use Rattle.std.proofs.Common.{refl, inl, inr, arith, append_assoc, append-nil}
use Rattle.std.specs.Prelude.{◌==◌}
use Rattle.std.proofs.Math.Bool.{and-false, and-true}
use Rattle.std.proofs.lemmas.Bool.{cases_Bool, cases_lt, cond-true, cond-false, eq-eqb, eqb-true}
use Rattle.std.proofs.lemmas.List.{reverse-append, reverse-reverse}
use Rattle.std.proofs.lemmas.List.Elements.{filter-append}
use Rattle.amd_model.specs.Quotient.{QuotientGraph, has, pivot}
use Rattle.amd_model.proofs.Quotient.Lists.{has_append, filter_yes, filter_no}
use Rattle.amd_model.proofs.Listings.Words.{filter_has, has_filter as filter_gives, has_head, has_none}
use Rattle.amd_round_laws.proofs.Lists.Named.{filter_named, filter_both}
use Rattle.amd_words.specs.Words.{num}
use Rattle.amd_lists.specs.Chains.{Chain, DegreeLists, Chooses, SomeFrom, without}
use Rattle.amd_merging.specs.Restoring.{put_all}
use Rattle.amd_merging.proofs.FrontBack.{put_one}
use Rattle.amd_rounds.specs.Keeps.{by_bound}
use Rattle.amd_round_laws.proofs.Lists.Pivots.{filters_on, choose_pivot, eq_flip}

-- ---- turned lists

pub filter_reverse : (p : ℕ → Bool) (xs : List ℕ) → filter p (reverse xs) ≡ reverse (filter p xs)
filter_reverse p [] = refl
filter_reverse p (x ∷ xs) = ap (filter p) (reverse-append (x ∷ []) xs) ∙ filter-append p (reverse xs) (x ∷ [])
    ∙ ap (λ l. l ++ filter p (x ∷ [])) (filter_reverse p xs) ∙ elim (cases_Bool (p x)) [
      | inl h ↦ ap (λ l. reverse (filter p xs) ++ l) (filter_yes p x [] h)
          ∙ sym (ap reverse (filter_yes p x xs h) ∙ reverse-append (x ∷ []) (filter p xs))
      | inr h ↦ ap (λ l. reverse (filter p xs) ++ l) (filter_no p x [] h) ∙ append-nil (reverse (filter p xs))
          ∙ sym (ap reverse (filter_no p x xs h))
    ]

pub has_reverse : (xs : List ℕ) (x : ℕ) → has (reverse xs) x ≡ has xs x
unfolding has
has_reverse [] x = refl
has_reverse (y ∷ ys) x = ap (λ l. has l x) (reverse-append (y ∷ []) ys) ∙ has_append (reverse ys) (y ∷ []) x
    ∙ ap (λ b. b || (y == x || false)) (has_reverse ys x) ∙ turned_or (has ys x) (y == x)
  where
    turned_or : (a b : Bool) → (a || (b || false)) ≡ (b || a)
    turned_or true true = refl
    turned_or true false = refl
    turned_or false true = refl
    turned_or false false = refl

-- rows put one after another at the heads of lists stand there in turned order
pub put_all_is : (bound : ℕ → ℕ) (xs : List ℕ) (lists : ℕ → List ℕ) (b : ℕ) → put_all bound xs lists b
    ≡ reverse (filter (λ i. bound i == b) xs) ++ lists b
put_all_is bound [] lists b = refl
put_all_is bound (x ∷ xs) lists b =
    let p : ℕ → Bool = λ i. bound i == b in
    put_all_is bound xs (put_one bound lists x) b ∙ elim (cases_Bool (b == bound x)) [
      | inl h ↦ ap (λ l. reverse (filter p xs) ++ l) (cond-true (b == bound x) (x ∷ lists b) (lists b) h)
          ∙ sym (append_assoc (reverse (filter p xs)) (x ∷ []) (lists b))
          ∙ sym (ap (λ l. l ++ lists b) (ap reverse (filter_yes p x xs (eq_flip (bound x) b ∙ h)) ∙
          reverse-append (x ∷ []) (filter p xs)))
      | inr h ↦ ap (λ l. reverse (filter p xs) ++ l) (cond-false (b == bound x) (x ∷ lists b) (lists b) h)
          ∙ sym (ap (λ l. reverse l ++ lists b) (filter_no p x xs (eq_flip (bound x) b ∙ h)))
    ]

-- ---- the pivot

-- the links of a list that names a row start at a row
chain_some : (n : ℕ) (next : List ℕ) (x i : ℕ) (xs : List ℕ) → has xs i ≡ true → Chain n next x xs → x < n
chain_some n next x i [] h c = absurd (has_none i h)
chain_some n next x i (y ∷ ys) h c = let e = c.0 in let l = c.1 in omega (arith, e, l)

-- a class stands in the list of its bound
pub bound_names : (t : QuotientGraph) (i : ℕ) → has t.placed i ≡ true → has (by_bound t (t.bound i)) i ≡ true
bound_names t i h = has_reverse (filter (λ j. t.bound j == t.bound i) t.placed) i
    ∙ filter_has (λ j. t.bound j == t.bound i) t.placed i h (eq-eqb (t.bound i) (t.bound i) refl)

-- and what stands in a list is a class of the bound
pub names_bound : (t : QuotientGraph) (b i : ℕ) → has (by_bound t b) i ≡ true → (has t.placed i ≡ true) × (t.bound i ≡ b)
names_bound t b i h =
    let parts = filter_gives (λ j. t.bound j == b) t.placed i (sym (has_reverse (filter (λ j. t.bound j == b) t.placed) i) ∙ h) in
    (parts.0, eqb-true (t.bound i) b parts.1)

module _ (n : ℕ) (head next last degree : List ℕ) (t : QuotientGraph) (linked : DegreeLists n head next last degree (by_bound t))
    (least : ℕ) (low : (i : ℕ) → has t.placed i ≡ true → least ≤ t.bound i) (small : (i : ℕ) → has t.placed i ≡ true → t.bound i < n)
  where
    -- a class gives a head
    pub some_from : (i : ℕ) → has t.placed i ≡ true → SomeFrom n head least
    some_from i h = (
      t.bound i,
      low i h,
      small i h,
      chain_some n next (num head (t.bound i)) i (by_bound t (t.bound i)) (bound_names t i h) (linked.chains (t.bound i) (small i h)),
    )

    -- the first row of the least bound that has one is the pivot of the rules
    module _ (c bound : ℕ) (chosen : Chooses n least (by_bound t) c bound) where
      pub chosen_placed : (has t.placed c ≡ true) × (t.bound c ≡ bound)
      chosen_placed = names_bound t bound c (ap (λ l. has l c) chosen.first.1 ∙ has_head c c chosen.first.0 refl)

      pub chosen_least : (i : ℕ) → has t.placed i ≡ true → bound ≤ t.bound i
      chosen_least i h = elim (cases_lt (t.bound i) bound) [
        | inl l ↦ absurd (has_none i (ap (λ k. has k i) (sym (chosen.below (t.bound i) (low i h) l)) ∙ bound_names t i h))
        | inr l ↦ l
      ]

      pub chosen_pivot : pivot t.bound t.placed ≡ c
      chosen_pivot =
          let listed : List ℕ = filter (λ i. t.bound i == bound) t.placed in
          choose_pivot t.bound t.placed bound c (reverse chosen.first.0) chosen_least
          (sym (reverse-reverse listed) ∙ ap reverse chosen.first.1 ∙ reverse-append (c ∷ []) chosen.first.0)

-- ---- a round

-- the lists by bound after a round: without the pivot, without its front, and with the classes that are placed again
pub by_bound_step : (t u : QuotientGraph) (c : ℕ) (front made : List ℕ) (bounds : ℕ → ℕ) →
    u.placed ≡ filter (λ i. not (i == c || has front i)) t.placed ++ made →
    ((i : ℕ) → has t.placed i ≡ true → (i == c || has front i) ≡ false → u.bound i ≡ t.bound i) →
    ((i : ℕ) → has made i ≡ true → u.bound i ≡ bounds i) → (b : ℕ) →
    put_all bounds made (λ d. filter (λ j. not (has front j)) (without c (by_bound t d))) b ≡ by_bound u b
by_bound_step t u c front made bounds placed stay again b =
    let other : ℕ → Bool = λ i. not (i == c || has front i) in
    let apart : ℕ → Bool = λ j. not (j == c) in
    let outside : ℕ → Bool = λ j. not (has front j) in
    let was : ℕ → Bool = λ i. t.bound i == b in
    let is : ℕ → Bool = λ i. u.bound i == b in
    let before : List ℕ = filter was t.placed in
    let left : filter outside (filter apart (reverse before)) ≡ reverse (filter is (filter other t.placed)) =
    ap (filter outside) (filter_reverse apart before) ∙ filter_reverse outside (filter apart before)
    ∙ ap reverse (sym (filter_both apart outside before)
    ∙ filter_named (λ x. apart x && outside x) other before (λ x h. neither (x == c) (has front x))
    ∙ filters_on other was is other t.placed (λ x h. agree x h)) in
    let new : filter (λ i. bounds i == b) made ≡ filter is made =
    filter_named (λ i. bounds i == b) is made (λ x h. ap (λ m. m == b) (sym (again x h))) in
    put_all_is bounds made (λ d. filter outside (without c (by_bound t d))) b
    ∙ ap (λ l. reverse l ++ filter outside (filter apart (reverse before))) new ∙ ap (λ l. reverse (filter is made) ++ l) left
    ∙ sym (ap (λ l. reverse (filter is l)) placed ∙ ap reverse (filter-append is (filter other t.placed) made)
    ∙ reverse-append (filter is (filter other t.placed)) (filter is made))
  where
    neither : (p q : Bool) → (not p && not q) ≡ not (p || q)
    neither true q = refl
    neither false q = refl

    agree : (x : ℕ) → has t.placed x ≡ true → (t.bound x == b && not (x == c || has front x))
        ≡ (not (x == c || has front x) && u.bound x == b)
    agree x h = elim (cases_Bool (x == c || has front x)) [
      | inl inside ↦ ap (λ k. t.bound x == b && not k) inside ∙ and-false (t.bound x == b) ∙ sym (ap (λ k. not k && u.bound x == b) inside)
      | inr out ↦ ap (λ k. t.bound x == b && not k) out ∙ and-true (t.bound x == b) ∙ ap (λ m. m == b) (sym (stay x h out))
          ∙ sym (ap (λ k. not k && u.bound x == b) out)
    ]
