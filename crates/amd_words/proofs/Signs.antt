-- Words as signed numbers.
use Rattle.std.proofs.Common.{ℕ, ℤ, pos, negsuc, zero, suc, true, false, ◌≡◌, ◌<◌, ◌||◌, ◌&&◌, not, ap, refl, sym, ◌∙◌, arith, List}
use Rattle.std.proofs.Common.{length, set, inl, inr, get_or-set_same, get_or-set_other}
use Rattle.std.specs.Prelude.{nat_lt, ◌==◌}
use Rattle.std.proofs.Math.Bool.{and-true, and-false, or-false, or-true}
use Rattle.std.proofs.lemmas.Int.{ints}
use Rattle.std.proofs.lemmas.Bool.{true≢false, cases_eq, le-ltb, eq-eqb, ne_eqb}
use Rattle.amd_words.specs.Words.{is_place, place, rows_in, is_negative, word, size_of, in_front, flip_of}

pub place_is : (z : ℤ) → is_place z ≡ true → z ≡ pos (place z)
unfolding is_place place
place_is (pos n) h = refl
place_is (negsuc n) h = absurd (true≢false (sym h))

pub abs_is : (z : ℤ) → is_place z ≡ true → lib.IntN.nat_abs z ≡ place z
unfolding is_place place
abs_is (pos n) h = refl
abs_is (negsuc n) h = absurd (true≢false (sym h))

pub abs_rows : (z : ℤ) → lib.IntN.nat_abs z ≡ rows_in z
unfolding rows_in
abs_rows (pos n) = refl
abs_rows (negsuc n) = refl

-- a number below 0
pub mark_test : (z : ℤ) → lib.Signed.lt_z z (pos 0) ≡ is_negative z
unfolding is_negative
mark_test (pos n) = le-ltb n 0 (omega arith)
mark_test (negsuc n) = refl

-- a number above 0
pub open_test : (z : ℤ) → lib.Signed.lt_z (pos 0) z ≡ (nat_lt 0 (rows_in z) && not (is_negative z))
unfolding rows_in is_negative
open_test (pos zero) = refl
open_test (pos (suc n)) = sym (and-true (nat_lt 0 (suc n)))
open_test (negsuc n) = sym (and-false (nat_lt 0 (suc n)))

pub open_is : (z : ℤ) → 0 < rows_in z → is_negative z ≡ false → (n : ℕ) × (z ≡ pos (suc n)) × (rows_in z ≡ suc n)
unfolding rows_in is_negative
open_is (pos zero) h o = absurd (omega (arith, h))
open_is (pos (suc n)) h o = (n, refl, refl)
open_is (negsuc n) h o = absurd (true≢false o)

-- a class is marked: the sign of its number of rows is turned
module _ (nv : List ℤ) (j n : ℕ) (small : j < length nv) (is : word nv j ≡ pos (suc n)) where
  turned_here : word (set nv j (negsuc n)) j ≡ negsuc n
  turned_here = get_or-set_same nv j (negsuc n) (pos 0) small

  pub turned_size : (i : ℕ) → size_of (set nv j (negsuc n)) i ≡ size_of nv i
  unfolding rows_in
  turned_size i = elim (cases_eq i j) [
    | inl q ↦ rw q (ap rows_in turned_here ∙ sym (ap rows_in is))
    | inr ne ↦ ap rows_in (get_or-set_other nv j i (negsuc n) (pos 0) ne)
  ]

  pub turned_front : (i : ℕ) → in_front (set nv j (negsuc n)) i ≡ (in_front nv i || j == i)
  unfolding is_negative
  turned_front i = elim (cases_eq i j) [
    | inl q ↦ rw q (ap is_negative turned_here ∙ sym (ap (λ b. in_front nv j || b) (eq-eqb j j refl) ∙ or-true (in_front nv j)))
    | inr ne ↦ ap is_negative (get_or-set_other nv j i (negsuc n) (pos 0) ne)
        ∙ sym (ap (λ b. in_front nv i || b) (ne_eqb j i (λ e. ne (sym e))) ∙ or-false (in_front nv i))
  ]

-- and it is turned back
module _ (nv : List ℤ) (j n : ℕ) (small : j < length nv) (is : word nv j ≡ negsuc n) where
  back_here : word (set nv j (pos (suc n))) j ≡ pos (suc n)
  back_here = get_or-set_same nv j (pos (suc n)) (pos 0) small

  pub back_size : (i : ℕ) → size_of (set nv j (pos (suc n))) i ≡ size_of nv i
  unfolding rows_in
  back_size i = elim (cases_eq i j) [
    | inl q ↦ rw q (ap rows_in back_here ∙ sym (ap rows_in is))
    | inr ne ↦ ap rows_in (get_or-set_other nv j i (pos (suc n)) (pos 0) ne)
  ]

  pub back_front : (i : ℕ) → in_front (set nv j (pos (suc n))) i ≡ (in_front nv i && not (j == i))
  unfolding is_negative
  back_front i = elim (cases_eq i j) [
    | inl q ↦ rw q (ap is_negative back_here ∙ sym (ap (λ b. in_front nv j && not b) (eq-eqb j j refl) ∙ and-false (in_front nv j)))
    | inr ne ↦ ap is_negative (get_or-set_other nv j i (pos (suc n)) (pos 0) ne)
        ∙ sym (ap (λ b. in_front nv i && not b) (ne_eqb j i (λ e. ne (sym e))) ∙ and-true (in_front nv i))
  ]

-- a number that is marked
pub inside_is : (z : ℤ) → is_negative z ≡ true → (n : ℕ) × (z ≡ negsuc n) × (rows_in z ≡ suc n)
unfolding is_negative rows_in
inside_is (pos n) h = absurd (true≢false (sym h))
inside_is (negsuc n) h = (n, refl, refl)

-- a number that is not marked
pub fresh_is : (z : ℤ) → is_negative z ≡ false → z ≡ pos (rows_in z)
unfolding is_negative rows_in
fresh_is (pos n) h = refl
fresh_is (negsuc n) h = absurd (true≢false h)

-- a number of 0 or more
pub place_test : (z : ℤ) → lib.Signed.le_z (pos 0) z ≡ is_place z
unfolding is_place
place_test (pos zero) = refl
place_test (pos (suc n)) = grind (arith, ints)
place_test (negsuc n) = refl

pub place_of : (n : ℕ) → place (pos n) ≡ n
unfolding place
place_of n = refl

pub is_place_of : (n : ℕ) → is_place (pos n) ≡ true
unfolding is_place
is_place_of n = refl

-- a mark is no place, and stands for none
pub mark_no_place : (j : ℕ) → is_place (flip_of j) ≡ false
unfolding is_place
mark_no_place j = refl

pub mark_none : (j : ℕ) → place (flip_of j) ≡ 0
unfolding place
mark_none j = refl

pub rows_of : (n : ℕ) → rows_in (pos n) ≡ n
unfolding rows_in
rows_of n = refl
