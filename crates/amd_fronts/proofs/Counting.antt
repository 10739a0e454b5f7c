-- Counters: a class that is met, and the classes of a front.
use Rattle.std.proofs.Common.{ℕ, ℤ, Bool, true, false, List, [], ◌∷◌, ◌≡◌, ◌<◌, ◌≤◌, ◌+◌, ◌-◌}
use Rattle.std.proofs.Common.{◌&&◌, cond, inl, inr, refl, sym, ap, ◌∙◌}
use Rattle.std.proofs.Common.{arith, sum_by}
use Rattle.std.specs.Prelude.{◌==◌}
use Rattle.std.proofs.lemmas.Bool.{cases_Bool, ne_eqb, cond-true, cond-false, and_right}
use Rattle.std.proofs.lemmas.List.Sums.{sum_by-append, sum_by-cons}
use Rattle.amd_model.specs.Quotient.{has}
use Rattle.amd_model.proofs.Listings.Words.{has_head, has_tail}
use Rattle.amd_words.specs.Words.{num, word, place, rows, size_of, flip_of}
use Rattle.amd_fronts.specs.Counts.{touched, ends, settled, counter}
use Rattle.amd_lists.specs.Layout.{elements_in, rows_met}
use Rattle.amd_words.proofs.RowLists.{rows_more, rows_both, rows_part}

-- ---- the counter of one element

module _ (flag x all seen more : ℕ) (two : 2 ≤ flag) (under : x < flag) (part : 0 < x → seen + more ≤ all) where
  pub counter_again : flag ≤ counter flag x all seen → more ≤ counter flag x all seen
  counter_again h = grind arith

  pub counter_first : 0 < counter flag x all seen → more ≤ all
  counter_first h = grind arith

  pub counter_more : 0 < more → touched flag all more (counter flag x all seen) ≡ counter flag x all (seen + more)
  counter_more some = grind arith

-- an element with rows left has not ended
module _ (aggressive : Bool) (flag x all seen more : ℕ) (two : 2 ≤ flag) (under : x < flag) (part : 0 < x →
    seen + more ≤ all) (some : 0 < more) where
  not_flag : counter flag x all seen ≡ flag → ⊥
  not_flag h = grind arith

  pub ends_not : ends aggressive flag (counter flag x all seen) ≡ false
  ends_not = and_right aggressive (counter flag x all seen == flag) (ne_eqb (counter flag x all seen) flag not_flag)

  pub settled_not : settled aggressive flag (counter flag x all seen) ≡ counter flag x all seen
  settled_not = cond-false (ends aggressive flag (counter flag x all seen)) 0 (counter flag x all seen) ends_not

-- the counter of an element that a class of the front lists is at least the flag after the count, if the element stands
module _ (flag x all seen : ℕ) (some : 0 < seen) (part : 0 < x → seen ≤ all) where
  met_counter : 0 < counter flag x all seen → flag ≤ counter flag x all seen
  met_counter h = grind arith

  pub met_stands : (aggressive : Bool) → 0 < settled aggressive flag (counter flag x all seen) →
      flag ≤ settled aggressive flag (counter flag x all seen)
  met_stands aggressive h = let c : ℕ = counter flag x all seen in let b : Bool = ends aggressive flag c in elim (cases_Bool b) [
    | inl t ↦ (let z = cond-true b 0 c t in absurd (omega (arith, h, z)))
    | inr f ↦ (let z = cond-false b 0 c f in let m = met_counter (omega (arith, h, z)) in omega (arith, m, z))
  ]

-- a counter that no class touched is below the flag
pub ends_none : (aggressive : Bool) (flag x all : ℕ) → 2 ≤ flag → x < flag → ends aggressive flag (counter flag x all 0) ≡ false
ends_none aggressive flag x all two under = and_right aggressive (counter flag x all 0 == flag) (ne_eqb (counter flag x all 0) flag
    (unmet flag x all two under))
  where
    unmet : (flag x all : ℕ) → 2 ≤ flag → x < flag → counter flag x all 0 ≡ flag → ⊥
    unmet flag x all two under h = grind arith

-- before a class is met nothing is counted, and nothing ends
pub counted_none : (aggressive : Bool) (flag x all seen : ℕ) → 2 ≤ flag → x < flag → seen ≡ 0 →
    x ≡ settled aggressive flag (counter flag x all seen)
counted_none aggressive flag x all seen two under none = rw none (sym (cond-false (ends aggressive flag (counter flag x all 0)) 0
    (counter flag x all 0) (ends_none aggressive flag x all two under) ∙ unmet x))
  where
    unmet : (y : ℕ) → cond (y == 0) 0 y ≡ y
    unmet y = grind arith

pub starts_none : (aggressive : Bool) (flag x all seen : ℕ) → 2 ≤ flag → x < flag → seen ≡ 0 → (a b : ℤ) →
    b ≡ cond (ends aggressive flag (counter flag x all seen)) a b
starts_none aggressive flag x all seen two under none a b = rw none (sym (cond-false (ends aggressive flag (counter flag x all 0)) a b
    (ends_none aggressive flag x all two under)))

-- ---- the classes of a front

module _ (iw pe e_len nv : List ℤ) where
  pub met_more : (from k e : ℕ) → rows_met iw pe e_len nv (rows iw from (k + 1)) e ≡ rows_met iw pe e_len nv (rows iw from k) e
      + cond (has (elements_in iw pe e_len (place (word iw (from + k)))) e) (size_of nv (place (word iw (from + k)))) 0
  met_more from k e = let f : (ℕ → ℕ) = λ i. cond (has (elements_in iw pe e_len i) e) (size_of nv i) 0 in let y : ℕ =
      place (word iw (from + k)) in
      let a = ap (sum_by f) (rows_more iw from k) in let b = sum_by-append f (rows iw from k) (y ∷ []) in let c = sum_by-cons f y [] in
      let none : sum_by f [] ≡ 0 = refl in omega (arith, a, b, c, none)

  pub met_part : (from k count e : ℕ) → k ≤ count → rows_met iw pe e_len nv (rows iw from k)
      e ≤ rows_met iw pe e_len nv (rows iw from count) e
  met_part from k count e l = let f : (ℕ → ℕ) = λ i. cond (has (elements_in iw pe e_len i) e) (size_of nv i) 0 in
      let n : count ≡ k + (count - k) = omega (arith, l) in
      let a = ap (λ m. sum_by f (rows iw from m)) n in let b = ap (sum_by f) (rows_both iw from k (count - k)) in let c =
      sum_by-append f (rows iw from k) (rows iw (from + k) (count - k)) in omega (arith, a, b, c)

  met_zero : (xs : List ℕ) (e : ℕ) → ((i : ℕ) → has xs i ≡ true → has (elements_in iw pe e_len i) e ≡ false) →
      rows_met iw pe e_len nv xs e ≡ 0
  met_zero [] e none = refl
  met_zero (x ∷ xs) e none = let f : (ℕ → ℕ) = λ i. cond (has (elements_in iw pe e_len i) e) (size_of nv i) 0 in
      let a = sum_by-cons f x xs in
      let b = cond-false (has (elements_in iw pe e_len x) e) (size_of nv x) 0 (none x (has_head x x xs refl)) in
      let c = met_zero xs e (λ i h. none i (has_tail i x xs h)) in omega (arith, a, b, c)

  module _ (aggressive : Bool) (degree w0 w w' : List ℕ) (from count k flag : ℕ) (l : k < count) (two : 2 ≤ flag)
      (under : (e : ℕ) → num w0 e < flag) (part : (e : ℕ) → 0 < num w0 e → rows_met iw pe e_len nv (rows iw from count) e ≤ num degree e)
      (before : (e : ℕ) → num w e
      ≡ settled aggressive flag (counter flag (num w0 e) (num degree e) (rows_met iw pe e_len nv (rows iw from k) e)))
      (i : ℕ) (is : i ≡ place (word iw (from + k))) (class : 0 < size_of nv i) where
    abbrev seen : ℕ → ℕ
    seen e = rows_met iw pe e_len nv (rows iw from k) e

    abbrev seen' : ℕ → ℕ
    seen' e = rows_met iw pe e_len nv (rows iw from (k + 1)) e

    abbrev lists : ℕ → Bool
    lists e = has (elements_in iw pe e_len i) e

    abbrev tops : ℕ → ℕ → ℕ
    tops e m = touched flag (num degree e) (size_of nv i) m

    more_is : (e : ℕ) → lists e ≡ true → seen' e ≡ seen e + size_of nv i
    more_is e h = let a = met_more from k e in let b = ap (λ j. cond (has (elements_in iw pe e_len j) e) (size_of nv j) 0) is in
        let c = cond-true (lists e) (size_of nv i) 0 h in omega (arith, a, b, c)

    none_is : (e : ℕ) → lists e ≡ false → seen' e ≡ seen e
    none_is e h = let a = met_more from k e in let b = ap (λ j. cond (has (elements_in iw pe e_len j) e) (size_of nv j) 0) is in
        let c = cond-false (lists e) (size_of nv i) 0 h in omega (arith, a, b, c)

    part_here : (e : ℕ) → lists e ≡ true → 0 < num w0 e → seen e + size_of nv i ≤ num degree e
    part_here e h some = let a = more_is e h in let b = met_part from (k + 1) count e (omega (arith, l)) in let c = part e some in
        omega (arith, a, b, c)

    before_here : (e : ℕ) → lists e ≡ true → num w e ≡ counter flag (num w0 e) (num degree e) (seen e)
    before_here e h = before e ∙ settled_not aggressive flag (num w0 e) (num degree e) (seen e) (size_of nv i) two (under e)
        (part_here e h) class

    after_here : (e : ℕ) → lists e ≡ true → tops e (num w e) ≡ counter flag (num w0 e) (num degree e) (seen' e)
    after_here e h = ap (tops e) (before_here e h)
        ∙ counter_more flag (num w0 e) (num degree e) (seen e) (size_of nv i) two (under e) (part_here e h) class
        ∙ ap (counter flag (num w0 e) (num degree e)) (sym (more_is e h))

    pub count_again : (e : ℕ) → lists e ≡ true → flag ≤ num w e → size_of nv i ≤ num w e
    count_again e h big = rw (before_here e h) (counter_again flag (num w0 e) (num degree e) (seen e) (size_of nv i) two (under e)
        (part_here e h) (rw (before_here e h) at big))

    pub count_first : (e : ℕ) → lists e ≡ true → 0 < num w e → size_of nv i ≤ num degree e
    count_first e h some = counter_first flag (num w0 e) (num degree e) (seen e) (size_of nv i) two (under e) (part_here e h)
        (rw (before_here e h) at some)

    pub count_next : ((e : ℕ) → num w' e ≡ cond (lists e) (settled aggressive flag (tops e (num w e))) (num w e)) →
        (e : ℕ) → num w' e ≡ settled aggressive flag (counter flag (num w0 e) (num degree e) (seen' e))
    count_next written e = written e ∙ elim (cases_Bool (lists e)) [
      | inl h ↦ cond-true (lists e) (settled aggressive flag (tops e (num w e))) (num w e) h ∙ ap (settled aggressive flag) (after_here e h)
      | inr h ↦ cond-false (lists e) (settled aggressive flag (tops e (num w e))) (num w e) h ∙ before e
          ∙ ap (λ m. settled aggressive flag (counter flag (num w0 e) (num degree e) m)) (sym (none_is e h))
    ]

    pub start_next : (me : ℕ) (pe1 pe2 : List ℤ) →
        ((e : ℕ) → word pe1 e ≡ cond (ends aggressive flag (counter flag (num w0 e) (num degree e) (seen e))) (flip_of me) (word pe e)) →
        ((e : ℕ) → word pe2 e ≡ cond (lists e && ends aggressive flag (tops e (num w e))) (flip_of me) (word pe1 e)) →
        (e : ℕ) → word pe2 e ≡ cond (ends aggressive flag (counter flag (num w0 e) (num degree e) (seen' e))) (flip_of me) (word pe e)
    start_next me pe1 pe2 was written e = written e ∙ elim (cases_Bool (lists e)) [
      | inl h ↦ ap (λ b. cond (b && ends aggressive flag (tops e (num w e))) (flip_of me) (word pe1 e)) h
          ∙ ap (λ m. cond (ends aggressive flag m) (flip_of me) (word pe1 e)) (after_here e h)
          ∙ ap (cond (ends aggressive flag (counter flag (num w0 e) (num degree e) (seen' e))) (flip_of me)) (was e
          ∙ cond-false (ends aggressive flag (counter flag (num w0 e) (num degree e) (seen e))) (flip_of me) (word pe e)
          (ends_not aggressive flag (num w0 e) (num degree e) (seen e) (size_of nv i) two (under e) (part_here e h) class))
      | inr h ↦ ap (λ b. cond (b && ends aggressive flag (tops e (num w e))) (flip_of me) (word pe1 e)) h ∙ was e
          ∙ ap (λ m. cond (ends aggressive flag (counter flag (num w0 e) (num degree e) m)) (flip_of me) (word pe e)) (sym (none_is e h))
    ]

  -- a class that no class of the front lists as an element keeps its start
  pub start_stays : (aggressive : Bool) (flag me : ℕ) (degree w0 : List ℕ) (pe1 : List ℤ) (from count k : ℕ) → k ≤ count → 2 ≤ flag →
      ((e : ℕ) → num w0 e < flag) → ((e : ℕ) → word pe1 e ≡ cond (ends aggressive flag (counter flag (num w0 e) (num degree e)
      (rows_met iw pe e_len nv (rows iw from k) e))) (flip_of me) (word pe e)) →
      (j : ℕ) → ((i : ℕ) → has (rows iw from count) i ≡ true → has (elements_in iw pe e_len i) j ≡ false) → word pe1 j ≡ word pe j
  start_stays aggressive flag me degree w0 pe1 from count k l two under was j none =
      let zero : rows_met iw pe e_len nv (rows iw from k) j ≡ 0 = met_zero (rows iw from k) j (λ i h. none i
      (rows_part iw from k count i l h)) in
      was j ∙ cond-false _ (flip_of me) (word pe j) (ap (λ m. ends aggressive flag (counter flag (num w0 j) (num degree j) m)) zero
      ∙ ends_none aggressive flag (num w0 j) (num degree j) two (under j))
