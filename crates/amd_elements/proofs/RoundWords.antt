-- The words of the lists of a round: the new element has no more than its pivot and the elements that it absorbs leave.
use Rattle.amd_lists.specs.Layout.{list_in}
use Rattle.std.proofs.Common.{ℕ, ℤ, Bool, List, [], ◌∷◌, ◌++◌, ◌≡◌, ◌<◌, ◌≤◌, ◌+◌, ◌-◌, ◌||◌, inl, inr, sym, ap, arith}
use Rattle.std.proofs.Common.{le_of_eq}
use Rattle.std.proofs.Common.{cond, length, fold, filter, flat_map, sum_by}
use Rattle.std.specs.Prelude.{◌==◌, nat_lt}
use Rattle.std.proofs.lemmas.Bool.{cases_Bool, cases_eq, eq-eqb, ne_eqb}
use Rattle.std.proofs.lemmas.List.{length-append}
use Rattle.std.proofs.lemmas.List.Sums.{sum_by-cons}
use Rattle.amd_model.specs.Below.{sum_below}
use Rattle.amd_model.specs.Quotient.{has, add_new}
use Rattle.amd_model.proofs.Counting.Below.{sum_mono, sum_plus}
use Rattle.amd_model.proofs.Quotient.Sums.{sum_one}
use Rattle.amd_model.proofs.Quotient.Lists.{add_old, add_fresh, filter_yes, filter_no}
use Rattle.amd_words.specs.Words.{num, start, size_of, classes}
use Rattle.amd_round_laws.specs.Rounds.{firsts}
use Rattle.amd_elements.specs.Element.{front_of, elements_at, variables_at}
use Rattle.amd_elements.specs.Room.{named_around}
use Rattle.amd_elements.proofs.ListsAround.{classes_around}
use Rattle.amd_words.proofs.RowLists.{rows_length}

pub adds_few : (skip : ℕ → Bool) (out xs : List ℕ) → length (fold (add_new skip) out xs) ≤ length out + length xs
adds_few skip out [] = omega arith
adds_few skip out (x ∷ xs) = elim (cases_Bool (skip x || has out x)) [
  | inl h ↦ (let a = ap (λ o. length (fold (add_new skip) o xs)) (add_old skip out x h) in let b = adds_few skip out xs in
      omega (arith, a, b))
  | inr h ↦ (let a = ap (λ o. length (fold (add_new skip) o xs)) (add_fresh skip out x h) in let b = adds_few skip (out ++ x ∷ []) xs in
      let c = length-append out (x ∷ []) in omega (arith, a, b, c))
]

pub filter_few : (p : ℕ → Bool) (xs : List ℕ) → length (filter p xs) ≤ length xs
filter_few p [] = omega arith
filter_few p (x ∷ xs) = let b = filter_few p xs in elim (cases_Bool (p x)) [
  | inl h ↦ (let a = ap length (filter_yes p x xs h) in
      omega (arith, a, b))
  | inr h ↦ (let a = ap length (filter_no p x xs h) in omega (arith, a, b))
]

flat_few : (f : ℕ → List ℕ) (h : ℕ → ℕ) (xs : List ℕ) → ((x : ℕ) → length (f x) ≤ h x) → length (flat_map f xs) ≤ sum_by h xs
flat_few f h [] few = omega arith
flat_few f h (x ∷ xs) few = let a = length-append (f x) (flat_map f xs) in let b = flat_few f h xs few in let c = few x in let d =
    sum_by-cons h x xs in omega (arith, a, b, c, d)

-- the list of the new element is no longer than those around its pivot
pub front_short : (iw nv pe : List ℤ) (len : List ℕ) (pivot m : ℕ) →
    length (front_of iw nv pe len pivot m) ≤ length (named_around iw pe len pivot m)
front_short iw nv pe len pivot m =
    let a = adds_few (λ x. x == pivot) [] (classes nv (named_around iw pe len pivot m)) in
    let b = filter_few (λ j. nat_lt 0 (size_of nv j)) (named_around iw pe len pivot m) in
    let c = ap (λ xs. length (firsts (λ x. x == pivot) xs)) (classes_around iw nv pe len pivot m) in omega (arith, a, b, c)

-- the words of the new element
pub front_words : (iw nv pe : List ℤ) (len : List ℕ) (pivot m : ℕ) →
    length (front_of iw nv pe len pivot m) ≤ sum_by (num len) (elements_at iw pe pivot m) + (num len pivot - m)
front_words iw nv pe len pivot m =
    let a = front_short iw nv pe len pivot m in
    let b = length-append (flat_map (list_in iw pe len) (elements_at iw pe pivot m)) (variables_at iw pe len pivot m) in
    let c = flat_few (list_in iw pe len) (num len) (elements_at iw pe pivot m)
    (λ e. le_of_eq (rows_length iw (start pe e) (num len e))) in
    let d = rows_length iw (start pe pivot + m) (num len pivot - m) in omega (arith, a, b, c, d)

-- ---- the words of all lists

-- a round: no list but that of the pivot grows, those of the elements that it absorbs end, and what the new element has is no more
-- than they and the pivot had: so the live words do not grow
pub words_fall : (n c : ℕ) (before after gone : ℕ → ℕ) → c < n → ((j : ℕ) → j < n → (j ≡ c → ⊥) → after j + gone j ≤ before j) →
    gone c ≡ 0 → after c ≤ before c + sum_below n gone →
    sum_below n after ≤ sum_below n before
words_fall n c before after gone l others none fits =
    let less : (j : ℕ) → j < n → (after j + gone j) + cond (c == j) (before j) 0 ≤ before j + cond (c == j) (after j) 0 =
    λ j m. elim (cases_eq c j) [
      | inl q ↦ (let a = ap (λ b. cond b (before j) 0) (eq-eqb c j q) in let b = ap (λ b. cond b (after j) 0) (eq-eqb c j q) in
          let g = ap gone q in omega (arith, a, b, g, none))
      | inr ne ↦ (let a = ap (λ b. cond b (before j) 0) (ne_eqb c j ne) in let b = ap (λ b. cond b (after j) 0) (ne_eqb c j ne) in
          let d = others j m (λ q. ne (sym q)) in omega (arith, a, b, d))
    ] in
    let a = sum_mono n (λ j. (after j + gone j) + cond (c == j) (before j) 0) (λ j. before j + cond (c == j) (after j) 0) less in
    let b = sum_plus n (λ j. after j + gone j) (λ j. cond (c == j) (before j) 0) in let d = sum_plus n after gone in let e =
    sum_plus n before (λ j. cond (c == j) (after j) 0) in
    let f = sum_one n before c l in let g = sum_one n after c l in
    omega (arith, a, b, d, e, f, g, fits)
