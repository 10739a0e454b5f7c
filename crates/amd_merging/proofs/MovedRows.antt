-- The rows of one marked class are added to those of another.
use Rattle.std.proofs.Common.{ℕ, ℤ, pos, negsuc, ◌≡◌, ◌<◌, ◌+◌, ◌&&◌, not, cond, ap, sym, ◌∙◌, arith, List, length, set, inl, inr}
use Rattle.std.proofs.Common.{get_or-set_same, get_or-set_other}
use Rattle.std.specs.Prelude.{◌==◌}
use Rattle.std.proofs.Math.Bool.{and-true}
use Rattle.std.proofs.lemmas.List.{length-set}
use Rattle.std.proofs.lemmas.Bool.{cases_eq, eq-eqb, ne_eqb, cond-true, cond-false, and_right, not_from_true, not_from_false}
use Rattle.amd_words.specs.Words.{rows_in, is_negative, word, size_of, in_front}

module _ (nv : List ℤ) (i j a b : ℕ) (small_i : i < length nv) (small_j : j < length nv) (is_j : word nv j ≡ negsuc a) (is_i : word nv i
    ≡ negsuc b) (other : j ≡ i → ⊥) where
  abbrev one : List ℤ
  one = set nv j (negsuc (a + b + 1))

  abbrev two : List ℤ
  two = set one i (pos 0)

  here : word two i ≡ pos 0
  here = let e = length-set nv j (negsuc (a + b + 1)) in get_or-set_same one i (pos 0) (pos 0) (omega (arith, e, small_i))

  there : word two j ≡ negsuc (a + b + 1)
  there = get_or-set_other one i j (pos 0) (pos 0) other ∙ get_or-set_same nv j (negsuc (a + b + 1)) (pos 0) small_j

  else_where : (x : ℕ) → (x ≡ i → ⊥) → (x ≡ j → ⊥) → word two x ≡ word nv x
  else_where x p q = get_or-set_other one i x (pos 0) (pos 0) p ∙ get_or-set_other nv j x (negsuc (a + b + 1)) (pos 0) q

  sum_is : rows_in (negsuc (a + b + 1)) ≡ size_of nv j + size_of nv i
  unfolding rows_in
  sum_is = let p = ap rows_in is_j in let q = ap rows_in is_i in omega (arith, p, q)

  pub moved_sizes : (x : ℕ) → size_of (set (set nv j (negsuc (a + b + 1))) i (pos 0)) x
      ≡ cond (x == i) 0 (cond (x == j) (size_of nv j + size_of nv i) (size_of nv x))
  unfolding rows_in
  moved_sizes x = elim (cases_eq x i) [
    | inl q ↦ ap (size_of two) q ∙ ap rows_in here ∙ sym (cond-true (x == i) 0
        (cond (x == j) (size_of nv j + size_of nv i) (size_of nv x)) (eq-eqb x i q))
    | inr ne ↦ elim (cases_eq x j) [
      | inl q ↦ ap (size_of two) q ∙ ap rows_in there ∙ sum_is
          ∙ sym (cond-true (x == j) (size_of nv j + size_of nv i) (size_of nv x) (eq-eqb x j q))
      | inr m ↦ ap rows_in (else_where x ne m) ∙ sym (cond-false (x == j) (size_of nv j + size_of nv i) (size_of nv x) (ne_eqb x j m))
    ] ∙ sym (cond-false (x == i) 0 (cond (x == j) (size_of nv j + size_of nv i) (size_of nv x)) (ne_eqb x i ne))
  ]

  pub moved_front : (x : ℕ) → in_front (set (set nv j (negsuc (a + b + 1))) i (pos 0)) x ≡ (in_front nv x && not (x == i))
  unfolding is_negative
  moved_front x = elim (cases_eq x i) [
    | inl q ↦ ap (in_front two) q ∙ ap is_negative here ∙ sym (and_right (in_front nv x) (not (x == i)) (not_from_true (x == i)
        (eq-eqb x i q)))
    | inr ne ↦ elim (cases_eq x j) [
      | inl q ↦ ap (in_front two) q ∙ ap is_negative there ∙ sym (ap (in_front nv) q ∙ ap is_negative is_j)
      | inr m ↦ ap is_negative (else_where x ne m)
    ] ∙ sym (ap (λ z. in_front nv x && z) (not_from_false (x == i) (ne_eqb x i ne)) ∙ and-true (in_front nv x))
  ]
