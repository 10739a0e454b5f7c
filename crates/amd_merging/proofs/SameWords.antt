-- A class whose own words are the same has the same lists, and lists without repeats that are cut or turned.
use Rattle.std.specs.Cmp.{both_ways}
use Rattle.std.proofs.Common.{ℕ, zero, suc, ℤ, List, [], ◌∷◌, ◌++◌, ◌≡◌, ◌≤◌, ◌+◌, ◌-◌, cond, inl, inr, sym, subst, ap, ◌∙◌, length, drop}
use Rattle.std.specs.Prelude.{◌==◌}
use Rattle.amd_model.specs.Quotient.{has, Once}
use Rattle.amd_model.proofs.Listings.Words.{has_none, has_head, has_tail, has_cases, has_left, has_right, has_append as in_parts}
use Rattle.amd_words.specs.Words.{num, word, place, is_place, start, rows}
use Rattle.amd_round_laws.specs.Rounds.{alike_in}
use Rattle.amd_merging.specs.Merging.{kept_of, words_of, IsRenewed, AreApart}
use Rattle.amd_lists.specs.Layout.{variables_in}

-- ---- a class whose own words are the same has the same lists

module _ (n : ℕ) (iw pe e_len pe' e_len' : List ℤ) (len : List ℕ) where
  abbrev pub Same : ℕ → Type 0
  Same i = (word pe' i ≡ word pe i) × (word e_len' i ≡ word e_len i)

  kept_same : (i : ℕ) → Same i → kept_of iw pe' e_len' i ≡ kept_of iw pe e_len i
  kept_same i s = ap (λ z. rows iw (place z + 1) (place (word e_len' i) - 1)) s.0 ∙ ap (λ z. rows iw (start pe i + 1) (place z - 1)) s.1

  near_same : (i : ℕ) → Same i → variables_in iw pe' e_len' len i ≡ variables_in iw pe e_len len i
  near_same i s = ap (λ z. rows iw (place z + place (word e_len' i)) (num len i - place (word e_len' i))) s.0
      ∙ ap (λ z. rows iw (start pe i + place z) (num len i - place z)) s.1

  pub words_same : (i : ℕ) → Same i → words_of iw pe' len i ≡ words_of iw pe len i
  words_same i s = ap (λ z. rows iw (place z + 1) (num len i - 1)) s.0

  pub renewed_same : (i : ℕ) → Same i → IsRenewed n iw pe e_len len i → IsRenewed n iw pe' e_len' len i
  renewed_same i s r = record {
    row = r.row;
    starts = ap is_place s.0 ∙ r.starts;
    counts = ap is_place s.1 ∙ r.counts;
    some = subst (λ z. 1 ≤ place z) (sym s.1) r.some;
    parts = subst (λ z. place z ≤ num len i) (sym s.1) r.parts;
    within = subst (λ z. place z + num len i ≤ length iw) (sym s.0) r.within;
    names = subst (λ z. Rattle.amd_words.specs.Words.Names n iw (place z + 1) (num len i - 1)) (sym s.0) r.names;
    once = subst Once (sym (words_same i s)) r.once;
  }

  pub apart_same : (i j : ℕ) → Same i → Same j → AreApart iw pe e_len len i j → AreApart iw pe' e_len' len i j
  apart_same i j s t a = (
    (λ x h. ap (λ xs. has xs x) (near_same j t) ∙ a.0 x (sym (ap (λ xs. has xs x) (kept_same i s)) ∙ h)),
    (λ x h. ap (λ xs. has xs x) (near_same i s) ∙ a.1 x (sym (ap (λ xs. has xs x) (kept_same j t)) ∙ h)),
  )

  pub alike_same : (i j : ℕ) → Same i → Same j → alike_in (kept_of iw pe' e_len') (variables_in iw pe' e_len' len) i j
      ≡ alike_in (kept_of iw pe e_len) (variables_in iw pe e_len len) i j
  alike_same i j s t = let f = λ (a b c d : List ℕ). alike_in (λ x. cond (x == 0) a b) (λ x. cond (x == 0) c d) 0 1 in
      ap (λ a. f a (kept_of iw pe' e_len' j) (variables_in iw pe' e_len' len i) (variables_in iw pe' e_len' len j)) (kept_same i s)
      ∙ ap (λ b. f (kept_of iw pe e_len i) b (variables_in iw pe' e_len' len i) (variables_in iw pe' e_len' len j)) (kept_same j t)
      ∙ ap (λ c. f (kept_of iw pe e_len i) (kept_of iw pe e_len j) c (variables_in iw pe' e_len' len j)) (near_same i s)
      ∙ ap (λ d. f (kept_of iw pe e_len i) (kept_of iw pe e_len j) (variables_in iw pe e_len len i) d) (near_same j t)

pub once_back : (m : ℕ) (xs : List ℕ) → Once xs → Once (drop m xs)
once_back zero xs o = o
once_back (suc m) [] o = o
once_back (suc m) (x ∷ xs) o = once_back m xs o.1

-- a number that is put at either end
pub either_end : (xs : List ℕ) (i x : ℕ) → has (i ∷ xs) x ≡ has (xs ++ i ∷ []) x
either_end xs i x = both_ways (has (i ∷ xs) x) (has (xs ++ i ∷ []) x)
    (λ h. elim (has_cases x i xs h) [ inl e ↦ has_right x xs (i ∷ []) (has_head x i [] e) | inr m ↦ has_left x xs (i ∷ []) m ])
    (λ h. elim (in_parts x xs (i ∷ []) h) [
      | inl m ↦ has_tail x i xs m
      | inr m ↦ elim (has_cases x i [] m) [ inl e ↦ has_head x i xs e | inr q ↦ absurd (has_none x q) ]
    ])
