-- What is left of the rows of an element when those of the classes of a front are taken off, one class after another.
use Rattle.std.proofs.Common.{ℕ, true, false, List, [], ◌∷◌, ◌≡◌, ◌<◌, ◌+◌, ◌-◌, ◌||◌, cond, fold, inl, inr, refl, sym, ◌∙◌, ap, arith}
use Rattle.std.proofs.Common.{length, get_or, take}
use Rattle.std.specs.Prelude.{sum_by, ◌==◌}
use Rattle.std.proofs.lemmas.Bool.{cases_Bool, cond-true, cond-false, eqb-true, or_left}
use Rattle.std.proofs.lemmas.List.{take_more}
use Rattle.std.proofs.lemmas.List.Sums.{fold_push, sum_by-cons}
use Rattle.amd_model.specs.Quotient.{has, Once}
use Rattle.amd_model.proofs.Listings.Words.{has_head, has_tail}
use Rattle.amd_model.proofs.Counting.Below.{clash}
use Rattle.amd_round_laws.specs.Rounds.{less, rows_left}

-- the next number of a list
pub less_next : (e rows b : ℕ) (xs : List ℕ) (k : ℕ) → k < length xs →
    less e rows b (take (k + 1) xs) ≡ cond (get_or xs k 0 == e) (less e rows b (take k xs) - rows) (less e rows b (take k xs))
less_next e rows b xs k here = ap (less e rows b) (take_more xs k 0 here) ∙ fold_push (λ m x. cond (x == e) (m - rows) m) b (take k xs)
    (get_or xs k 0)

-- the next class of a front
pub left_next : (block whole size : ℕ → ℕ) (elements : ℕ → List ℕ) (front : List ℕ) (e k : ℕ) → k < length front →
    rows_left block whole size elements (take (k + 1) front) e
    ≡ less e (size (get_or front k 0)) (rows_left block whole size elements (take k front) e) (elements (get_or front k 0))
left_next block whole size elements front e k here =
    ap (λ xs. rows_left block whole size elements xs e) (take_more front k 0 here)
    ∙ fold_push (λ m i. less e (size i) m (elements i)) (whole e - block e) (take k front) (get_or front k 0)

-- a list without the element takes nothing off
less_none : (e rows b : ℕ) (xs : List ℕ) → has xs e ≡ false → less e rows b xs ≡ b
unfolding has
less_none e rows b [] h = refl
less_none e rows b (x ∷ xs) h = elim (cases_Bool (x == e)) [
  | inl q ↦ clash (or_left (x == e) (has xs e) q) h
  | inr q ↦ ap (λ m. less e rows m xs) (cond-false (x == e) (b - rows) b q) ∙ less_none e rows b xs (sym (ap (λ b. b || has xs e) q) ∙ h)
]

-- a list that names it once takes the rows off once
less_once : (e rows b : ℕ) (xs : List ℕ) → Once xs → less e rows b xs ≡ b - cond (has xs e) rows 0
unfolding has
less_once e rows b [] once = omega arith
less_once e rows b (x ∷ xs) once = elim (cases_Bool (x == e)) [
  | inl q ↦ ap (λ m. less e rows m xs) (cond-true (x == e) (b - rows) b q) ∙ less_none e rows (b - rows) xs
      (ap (has xs) (sym (eqb-true x e q)) ∙ once.0)
      ∙ ap (λ m. b - m) (sym (cond-true (x == e || has xs e) rows 0 (or_left (x == e) (has xs e) q)))
  | inr q ↦ ap (λ m. less e rows m xs) (cond-false (x == e) (b - rows) b q) ∙ less_once e rows b xs once.1 ∙ ap
      (λ k. b - cond (k || has xs e) rows 0) (sym q)
]

-- lists that name it once each take off the rows of those that name it
pub taken_off : (e : ℕ) (size : ℕ → ℕ) (lists : ℕ → List ℕ) (b : ℕ) (front : List ℕ) → ((i : ℕ) → has front i ≡ true → Once (lists i)) →
    fold (λ m i. less e (size i) m (lists i)) b front ≡ b - sum_by (λ i. cond (has (lists i) e) (size i) 0) front
taken_off e size lists b [] once = let none : sum_by (λ i. cond (has (lists i) e) (size i) 0) [] ≡ 0 = refl in omega (arith, none)
taken_off e size lists b (i ∷ front) once =
    let first = less_once e (size i) b (lists i) (once i (has_head i i front refl)) in
    let rest = taken_off e size lists (less e (size i) b (lists i)) front (λ j h. once j (has_tail j i front h)) in
    let all = sum_by-cons (λ i. cond (has (lists i) e) (size i) 0) i front in
    omega (arith, first, rest, all)
