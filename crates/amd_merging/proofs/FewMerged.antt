-- A front that names one row at most is merged already: its class represents itself.
use Rattle.std.proofs.Common.{ℕ, Bool, true, false, List, [], ◌∷◌, ◌≡◌, ◌≤◌, ◌&&◌, not, cond, inl, inr}
use Rattle.std.proofs.Common.{refl, sym, ap, ◌∙◌, arith, length}
use Rattle.std.specs.Prelude.{◌==◌, filter, negsuc, sum_by}
use Rattle.std.proofs.lemmas.Bool.{cases_Bool, eq-eqb, cond-true, cond-false, and_left, and_right, not_from_true}
use Rattle.std.proofs.lemmas.List.Sums.{sum_by-cons}
use Rattle.amd_model.specs.Quotient.{has, last_that}
use Rattle.amd_model.proofs.Listings.Words.{has_none, has_cases}
use Rattle.amd_words.specs.Words.{word, size_of, in_front, flip_of}
use Rattle.amd_merging.specs.Classes.{Classes}
use Rattle.amd_merging.specs.Merging.{MergesAll}

module _ (p : Classes) (rest : List ℕ) (rep : ℕ → ℕ) (own : (x : ℕ) → has rest x ≡ true → rep x ≡ x)
    (sums : (x : ℕ) → has rest x ≡ true → sum_by (size_of p.nv) (filter (λ j. rep j == x) rest) ≡ size_of p.nv x) where
  abbrev sum : ℕ → ℕ
  sum x = sum_by (size_of p.nv) (filter (λ j. rep j == x) rest)

  stays : (x : ℕ) → (has rest x && not (rep x == x)) ≡ false
  stays x = elim (cases_Bool (has rest x)) [
    | inl t ↦ and_right (has rest x) (not (rep x == x)) (not_from_true (rep x == x) (eq-eqb (rep x) x (own x t)))
    | inr f ↦ and_left (has rest x) (not (rep x == x)) f
  ]

  -- where each class represents itself, merging leaves all as it is
  own_merged : MergesAll rest rep p p
  own_merged = record {
    sizes = λ x. elim (cases_Bool (has rest x)) [
      | inl t ↦ sym (cond-true (has rest x) (cond (rep x == x) (sum x) 0) (size_of p.nv x) t
          ∙ cond-true (rep x == x) (sum x) 0 (eq-eqb (rep x) x (own x t)) ∙ sums x t)
      | inr f ↦ sym (cond-false (has rest x) (cond (rep x == x) (sum x) 0) (size_of p.nv x) f)
    ];
    links = λ x. sym (cond-false (has rest x && not (rep x == x)) (flip_of (rep x)) (word p.pe x) (stays x));
    lists = λ x. sym (cond-false (has rest x && not (rep x == x)) (negsuc 0) (word p.e_len x) (stays x));
    front = λ x. sym (cond-false (has rest x && not (rep x == x)) false (in_front p.nv x) (stays x));
    nexts = λ x h. refl;
  }

either_same : (b : Bool) (i : ℕ) → cond b i i ≡ i
either_same true i = refl
either_same false i = refl

only : (x i : ℕ) → has (i ∷ []) x ≡ true → x ≡ i
only x i h = elim (has_cases x i [] h) [
  | inl e ↦ e
  | inr k ↦ absurd (has_none x k)
]

pub few_merged : (like : ℕ → ℕ → Bool) (p : Classes) (rest : List ℕ) → length rest ≤ 1 →
    MergesAll rest (λ x. last_that (like x) x rest) p p
unfolding last_that
few_merged like p [] few = own_merged p [] (λ x. x) (λ x h. absurd (has_none x h))
    (λ x h. absurd (has_none x h))
few_merged like p (i ∷ []) few =
    let rep = λ (x : ℕ). last_that (like x) x (i ∷ []) in
    let own : (x : ℕ) → has (i ∷ []) x ≡ true → rep x ≡ x =
    λ x h. ap (λ j. cond (like x i) j x) (sym (only x i h)) ∙ either_same (like x i) x in
    own_merged p (i ∷ []) rep own
    (λ x h. let e = only x i h in let s = sum_by-cons (size_of p.nv) i [] in
    ap (λ b. sum_by (size_of p.nv) (cond b (i ∷ []) [])) (eq-eqb (rep i) x (ap rep (sym e) ∙ own x h)) ∙ omega (arith, s)
    ∙ ap (size_of p.nv) (sym e))
few_merged like p (i ∷ j ∷ xs) few = absurd (omega (arith, few))
