-- The rows that words name.
use Rattle.amd_model.proofs.Counting.Below.{clash}
use Rattle.std.proofs.Common.{ℕ, ℤ, true, List, [], ◌∷◌, ◌++◌, zero, suc, ◌≡◌, ◌<◌, ◌≤◌, ◌+◌, ◌-◌}
use Rattle.std.proofs.Common.{◌||◌, inl, inr, false, refl, sym, ap, subst, ◌∙◌}
use Rattle.std.proofs.Common.{arith, append_assoc, length}
use Rattle.std.proofs.lemmas.List.{length-append}
use Rattle.std.proofs.lemmas.Bool.{cases_eq, eq-eqb, ne_eqb, or_left, or_right, or_parts, or_from}
use Rattle.std.specs.Prelude.{◌==◌}
use Rattle.amd_model.specs.Quotient.{has, Once}
use Rattle.amd_model.proofs.Quotient.Lists.{has_append}
use Rattle.amd_words.specs.Words.{word, place, rows, Names}

pub rows_none : (iw : List ℤ) (from : ℕ) → rows iw from 0 ≡ []
unfolding rows
rows_none iw from = refl

pub rows_more : (iw : List ℤ) (from n : ℕ) → rows iw from (n + 1) ≡ rows iw from n ++ place (word iw (from + n)) ∷ []
unfolding rows
rows_more iw from n = let e : n + 1 ≡ suc n = omega arith in ap (rows iw from) e

-- the same range of words, under equal numbers
pub rows_at : (iw : List ℤ) {from count from' count' : ℕ} → from ≡ from' → count ≡ count' → rows iw from count ≡ rows iw from' count'
rows_at iw {from} {count} {from'} {count'} f c = ap (λ s. rows iw s count) f ∙ ap (rows iw from') c

pub names_at : (iw : List ℤ) {n from count n' from' count' : ℕ} → n ≡ n' → from ≡ from' → count ≡ count' →
    Names n iw from count → Names n' iw from' count'
names_at iw {n} {from} {count} {n'} {from'} {count'} e f c h = subst (λ m. Names m iw from' count') e
    (subst (λ s. Names n iw s count') f (subst (λ k. Names n iw from k) c h))

-- the same words name the same rows
pub rows_same : (iw iw' : List ℤ) (from from' count : ℕ) → ((k : ℕ) → k < count → word iw' (from' + k) ≡ word iw (from + k)) →
    rows iw' from' count ≡ rows iw from count
unfolding rows
rows_same iw iw' from from' zero h = refl
rows_same iw iw' from from' (suc n) h = let a = rows_same iw iw' from from' n (λ k l. h k (omega (arith, l))) in let b =
    ap place (h n (omega arith)) in
    ap (λ xs. xs ++ place (word iw' (from' + n)) ∷ []) a ∙ ap (λ x. rows iw from n ++ x ∷ []) b

-- some words and those behind them
pub rows_both : (iw : List ℤ) (from n m : ℕ) → rows iw from (n + m) ≡ rows iw from n ++ rows iw (from + n) m
unfolding rows
rows_both iw from n zero = let e : n + 0 ≡ n = omega arith in ap (rows iw from) e ∙ sym (append_nil (rows iw from n))
  where
    append_nil : (xs : List ℕ) → xs ++ [] ≡ xs
    append_nil [] = refl
    append_nil (x ∷ xs) = ap (λ l. x ∷ l) (append_nil xs)
rows_both iw from n (suc m) =
    let e : n + suc m ≡ (n + m) + 1 = omega arith in let at : from + (n + m) ≡ (from + n) + m = omega arith in
    ap (rows iw from) e ∙ rows_more iw from (n + m) ∙ ap (λ xs. xs ++ place (word iw (from + (n + m))) ∷ []) (rows_both iw from n m)
    ∙ ap (λ k. (rows iw from n ++ rows iw (from + n) m) ++ place (word iw k) ∷ []) at
    ∙ append_assoc (rows iw from n) (rows iw (from + n) m) (place (word iw ((from + n) + m)) ∷ [])

pub rows_length : (iw : List ℤ) (from count : ℕ) → length (rows iw from count) ≡ count
unfolding rows
rows_length iw from zero = refl
rows_length iw from (suc n) = let a = rows_length iw from n in let b = length-append (rows iw from n) (place (word iw (from + n)) ∷ []) in
    omega (arith, a, b)

-- what a word names is named
pub rows_has : (iw : List ℤ) (from count k : ℕ) → k < count → has (rows iw from count) (place (word iw (from + k))) ≡ true
unfolding rows has
rows_has iw from zero k l = absurd (omega (arith, l))
rows_has iw from (suc n) k l = let x : ℕ = place (word iw (from + k)) in has_append (rows iw from n) (place (word iw (from + n)) ∷ []) x
    ∙ elim (cases_eq k n) [
      | inl q ↦ or_right (has (rows iw from n) x) (place (word iw (from + n)) == x || false)
          (or_left (place (word iw (from + n)) == x) false (eq-eqb (place (word iw (from + n))) x
          (ap (λ m. place (word iw (from + m))) (sym q))))
      | inr ne ↦ or_left (has (rows iw from n) x) (place (word iw (from + n)) == x || false) (rows_has iw from n k (omega (arith, l, ne)))
    ]

-- what the first words name is named
pub rows_part : (iw : List ℤ) (from k count x : ℕ) → k ≤ count → has (rows iw from k) x ≡ true → has (rows iw from count) x ≡ true
rows_part iw from k count x l h = let e : count ≡ k + (count - k) = omega (arith, l) in
    ap (λ m. has (rows iw from m) x) e ∙ ap (λ xs. has xs x) (rows_both iw from k (count - k))
    ∙ has_append (rows iw from k) (rows iw (from + k) (count - k)) x
    ∙ or_left (has (rows iw from k) x) (has (rows iw (from + k) (count - k)) x) h

-- what stands in the middle of a list without repeats is not before
once_before : (xs ys : List ℕ) (y : ℕ) → Once (xs ++ y ∷ ys) → has xs y ≡ false
unfolding has
once_before [] ys y o = refl
once_before (x ∷ xs) ys y o = let p = or_parts (has xs x) (has (y ∷ ys) x) (sym (has_append xs (y ∷ ys) x) ∙ o.0) in let q =
    or_parts (y == x) (has ys x) p.1 in
    or_from (x == y) (has xs y) (ne_eqb x y (λ e. clash (eq-eqb y x (sym e)) q.0)) (once_before xs ys y o.1)

-- the next word of a list without repeats names what is not named before
pub fresh_word : (iw : List ℤ) (from count k : ℕ) → k < count → Once (rows iw from count) →
    has (rows iw from k) (place (word iw (from + k))) ≡ false
fresh_word iw from count k l once = let e : count ≡ (k + 1) + (count - (k + 1)) = omega (arith, l) in let y : ℕ =
    place (word iw (from + k)) in let rest : List ℕ = rows iw (from + (k + 1)) (count - (k + 1)) in
    let split : rows iw from count ≡ rows iw from k ++ y ∷ rest = ap (rows iw from) e ∙ rows_both iw from (k + 1) (count - (k + 1))
    ∙ ap (λ xs. xs ++ rest) (rows_more iw from k) ∙ append_assoc (rows iw from k) (y ∷ []) rest in
    once_before (rows iw from k) rest y (rw split at once)
