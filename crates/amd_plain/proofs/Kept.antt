-- A loop over a list writes at its numbers: what stands at each place then.
use Rattle.std.proofs.Common.{ℕ, Bool, true, false, List, [], ◌∷◌, ◌++◌, ◌≡◌, ◌≢◌, ◌<◌, ◌≤◌, ◌+◌, ◌&&◌, not, cond, inl, inr, refl, sym, ◌∙◌}
use Rattle.std.proofs.Common.{ap, subst, arith, length, get_or, take, set, get_or-set_same, get_or-set_other}
use Rattle.std.specs.Prelude.{Vec, filter, ◌==◌}
use Rattle.std.proofs.lemmas.Bool.{cases_eq, cond-true, cond-false, and_from, eq-eqb, ne_eqb, not_from_true, not_from_false, and_right}
use Rattle.std.proofs.lemmas.List.{append-nil}
use Rattle.std.proofs.lemmas.List.Elements.{filter_more, All-filter}
use Rattle.amd_model.specs.Quotient.{has, is_empty, Once}
use Rattle.amd_plain.specs.Views.{list_at, Below, ListsBelow}
use Rattle.amd_plain.proofs.ListPlaces.{list_read, list_set_same, list_set_other, lists_set}
use Rattle.amd_round_laws.proofs.Lists.Named.{has_next, has_others, has_all, not_met}

-- a step of a loop changes a function at one number, where tests say what was changed before and what is after
pub changed_step : {X : Type 0} (new old : ℕ → X) (met meets : ℕ → Bool) (x : ℕ) → meets x ≡ true → ((e : ℕ) → e ≢ x → meets e ≡ met e) →
    (before after : ℕ → X) → ((e : ℕ) → before e ≡ cond (met e) (new e) (old e)) →
    ((e : ℕ) → e ≢ x → after e ≡ before e) → after x ≡ new x → (e : ℕ) → after e ≡ cond (meets e) (new e) (old e)
changed_step new old met meets x here others before after was same is e = elim (cases_eq e x) [
  | inl q ↦ rw q (is ∙ sym (cond-true (meets x) (new x) (old x) here))
  | inr ne ↦ same e ne ∙ was e ∙ ap (λ b. cond b (new e) (old e)) (sym (others e ne))
]

-- before a loop over a list nothing is changed
pub changed_none : {X : Type 0} (xs : List ℕ) (new old : ℕ → X) → (x : ℕ) → old x ≡ cond (has (take 0 xs) x) (new x) (old x)
unfolding has
changed_none xs new old x = refl

-- a loop over a list, which has changed a function at the numbers before a place
module _ {X : Type 0} (xs : List ℕ) (k d : ℕ) (within : k < length xs) (new old before : ℕ → X)
    (so_far : (x : ℕ) → before x ≡ cond (has (take k xs) x) (new x) (old x)) where
  -- changes it at the number there
  pub changed_more : (after : ℕ → X) → ((x : ℕ) → x ≢ get_or xs k d → after x ≡ before x) → after (get_or xs k d) ≡ new (get_or xs k d) →
      (x : ℕ) → after x ≡ cond (has (take (k + 1) xs) x) (new x) (old x)
  changed_more after = changed_step new old (has (take k xs)) (has (take (k + 1) xs)) (get_or xs k d) (has_next xs k d within)
      (λ e ne. has_others xs k d e within ne) before after so_far

  -- which was not changed before
  pub unchanged : Once xs → before (get_or xs k d) ≡ old (get_or xs k d)
  unchanged o = so_far (get_or xs k d) ∙ cond-false (has (take k xs) (get_or xs k d)) (new (get_or xs k d)) (old (get_or xs k d))
      (not_met xs k d within o)

-- at the end of the loop
pub changed_all : {X : Type 0} (xs : List ℕ) (k : ℕ) → length xs ≤ k → (new old after : ℕ → X) →
    ((x : ℕ) → after x ≡ cond (has (take k xs) x) (new x) (old x)) → (x : ℕ) → after x ≡ cond (has xs x) (new x) (old x)
changed_all xs k l new old after f x = f x ∙ ap (λ b. cond b (new x) (old x)) (has_all xs k l x)

-- a value is written at the next number of a list
pub set_next : {X : Type 0} (F G : ℕ → X) (xs : List ℕ) (k : ℕ) (now : List X) (d y : X) → k < length xs → get_or xs k 0 < length now →
    y ≡ F (get_or xs k 0) →
    ((e : ℕ) → get_or now e d ≡ cond (has (take k xs) e) (F e) (G e)) → (e : ℕ) →
    get_or (set now (get_or xs k 0) y) e d ≡ cond (has (take (k + 1) xs) e) (F e) (G e)
set_next F G xs k now d y here small is was = let x : ℕ = get_or xs k 0 in
    changed_more xs k 0 here F G (λ e. get_or now e d) was (λ e. get_or (set now x y) e d) (λ e ne. get_or-set_other now x e y d ne)
    (get_or-set_same now x y d small ∙ is)

-- a value is written at the next number of a list if it passes a test
pub set_passing : {X : Type 0} (F G : ℕ → X) (test : ℕ → Bool) (xs : List ℕ) (k : ℕ) (now : List X) (d y : X) → k < length xs →
    get_or xs k 0 < length now →
    test (get_or xs k 0) ≡ true → y ≡ F (get_or xs k 0) →
    ((e : ℕ) → get_or now e d ≡ cond (has (take k xs) e && test e) (F e) (G e)) → (e : ℕ) →
    get_or (set now (get_or xs k 0) y) e d ≡ cond (has (take (k + 1) xs) e && test e) (F e) (G e)
set_passing F G test xs k now d y here small pass is was = let x : ℕ = get_or xs k 0 in
    changed_step F G (λ e. has (take k xs) e && test e) (λ e. has (take (k + 1) xs) e && test e) x
    (and_from (has (take (k + 1) xs) x) (test x) (has_next xs k 0 here) pass) (λ e ne. ap (λ b. b && test e) (has_others xs k 0 e here ne))
    (λ e. get_or now e d) (λ e. get_or (set now x y) e d) was (λ e ne. get_or-set_other now x e y d ne)
    (get_or-set_same now x y d small ∙ is)

-- and if it does not, nothing is written
pub set_none : {X : Type 0} (F G : ℕ → X) (test : ℕ → Bool) (xs : List ℕ) (k : ℕ) (now : ℕ → X) → k < length xs →
    test (get_or xs k 0) ≡ false →
    ((e : ℕ) → now e ≡ cond (has (take k xs) e && test e) (F e) (G e)) → (e : ℕ) →
    now e ≡ cond (has (take (k + 1) xs) e && test e) (F e) (G e)
set_none F G test xs k now here fail was e = was e ∙ ap (λ b. cond b (F e) (G e)) (elim (cases_eq e (get_or xs k 0)) [
  | inl q ↦ (let f : test e ≡ false = ap test q ∙ fail in and_right (has (take k xs) e) (test e) f ∙
      sym (and_right (has (take (k + 1) xs) e) (test e) f))
  | inr ne ↦ ap (λ b. b && test e) (sym (has_others xs k 0 e here ne))
])

-- of what passes a test, the next number of a list is added or passed over
pub filter_add : (test : ℕ → Bool) (xs : List ℕ) (k : ℕ) → k < length xs → test (get_or xs k 0) ≡ true →
    filter test (take k xs) ++ get_or xs k 0 ∷ [] ≡ filter test (take (k + 1) xs)
filter_add test xs k here pass = let x : ℕ = get_or xs k 0 in
    sym (filter_more test xs k 0 here ∙ ap (λ l. filter test (take k xs) ++ l) (cond-true (test x) (x ∷ []) [] pass))

pub filter_pass : (test : ℕ → Bool) (xs : List ℕ) (k : ℕ) → k < length xs → test (get_or xs k 0) ≡ false →
    filter test (take k xs) ≡ filter test (take (k + 1) xs)
filter_pass test xs k here fail = let x : ℕ = get_or xs k 0 in
    sym (filter_more test xs k 0 here ∙ ap (λ l. filter test (take k xs) ++ l) (cond-false (test x) (x ∷ []) [] fail) ∙
    append-nil (filter test (take k xs)))

-- of what fails a test, the next number of a list is added or passed over
pub filter_next : (test : ℕ → Bool) (xs : List ℕ) (k : ℕ) → k < length xs → test (get_or xs k 0) ≡ false →
    filter (λ i. not (test i)) (take k xs) ++ get_or xs k 0 ∷ [] ≡ filter (λ i. not (test i)) (take (k + 1) xs)
filter_next test xs k here fail = filter_add (λ i. not (test i)) xs k here (not_from_false (test (get_or xs k 0)) fail)

pub filter_passed : (test : ℕ → Bool) (xs : List ℕ) (k : ℕ) → k < length xs → test (get_or xs k 0) ≡ true →
    filter (λ i. not (test i)) (take k xs) ≡ filter (λ i. not (test i)) (take (k + 1) xs)
filter_passed test xs k here pass = filter_pass (λ i. not (test i)) xs k here (not_from_true (test (get_or xs k 0)) pass)

-- ---- lists at places

-- of the list at the next number of a list without repeats what passes is kept
pub keep_next : {A : Type 0} (p : ℕ → Bool) (old now : List (Vec ℕ A)) (front : List ℕ) (k : ℕ) (v w : Vec ℕ A) → k < length front →
    Once front → get_or front k 0 < length now →
    v ≡ get_or now (get_or front k 0) v → w.items ≡ filter p v.items →
    ((i : ℕ) → list_at now i ≡ cond (has (take k front) i) (filter p (list_at old i)) (list_at old i)) →
    (i : ℕ) → list_at (set now (get_or front k 0) w) i ≡ cond (has (take (k + 1) front) i) (filter p (list_at old i)) (list_at old i)
keep_next p old now front k v w here once small at_place kept was =
    let x : ℕ = get_or front k 0 in let keeps : ℕ → List ℕ = λ j. filter p (list_at old j) in
    let before : v.items ≡ list_at old x = sym (list_read now x v small at_place) ∙
    unchanged front k 0 here keeps (list_at old) (list_at now) was once in
    changed_more front k 0 here keeps (list_at old) (list_at now) was (list_at (set now x w)) (λ i ne. list_set_other now x w i ne)
    (list_set_same now x w small ∙ kept ∙ ap (filter p) before)

-- what is kept of lists of numbers below n is below n
pub below_next : {A : Type 0} (n : ℕ) (p : ℕ → Bool) (now : List (Vec ℕ A)) (x : ℕ) (v w : Vec ℕ A) → x < length now → v ≡ get_or now x v →
    w.items ≡ filter p v.items →
    ListsBelow n now → ListsBelow n (set now x w)
below_next n p now x v w small at_place kept was =
    let here : Below n v.items = subst (λ u. Below n u.items) (sym at_place) (was.1 x v small) in
    lists_set n now x w was (subst (Below n) (sym kept) (All-filter p (λ j. j < n) v.items here))

-- a list without numbers has no length
pub none_long : (xs : List ℕ) (n : ℕ) → n ≡ length xs → (n == 0) ≡ is_empty xs
unfolding is_empty
none_long [] n e = eq-eqb n 0 e
none_long (x ∷ xs) n e = ne_eqb n 0 (λ q. omega (arith, e, q))

-- nor has its vector
pub none_is : {A : Type 0} (v : Vec ℕ A) → (v.len == 0) ≡ is_empty v.items
none_is v = none_long v.items v.len v.ok.0
