-- The rows of a bucket, gone through from its head.
use Rattle.std.proofs.Common.{ℕ, zero, suc, Bool, true, false, List, [], ◌∷◌, ◌≡◌, ◌<◌, ◌≤◌, ◌⊎◌, inl, inr, refl, sym, subst, ap, ◌∙◌}
use Rattle.std.proofs.Common.{arith, length}
use Rattle.std.specs.Prelude.{nat_lt}
use Rattle.std.proofs.lemmas.Bool.{cases_Bool, cond-true, cond-false, lt-ltb, le-ltb}
use Rattle.amd_model.specs.Quotient.{has}
use Rattle.amd_model.proofs.Listings.Words.{has_none, has_head, has_tail, has_cases}
use Rattle.amd_words.specs.Words.{num}
use Rattle.amd_lists.specs.Chains.{Chain}
use Rattle.amd_merging.specs.Merging.{links, Finds}

-- the links through a list lead to its rows
pub links_is : (n : ℕ) (next : List ℕ) (fuel x : ℕ) (xs : List ℕ) → Chain n next x xs → length xs ≤ fuel → links n next fuel x ≡ xs
unfolding links
links_is n next zero x [] c l = refl
links_is n next zero x (y ∷ ys) c l = absurd (omega (arith, l))
links_is n next (suc fuel) x [] c l = cond-false (nat_lt x n) (x ∷ links n next fuel (num next x)) [] (le-ltb x n c)
links_is n next (suc fuel) x (y ∷ ys) c l = let e = c.0 in let s = c.1 in
    cond-true (nat_lt x n) (x ∷ links n next fuel (num next x)) [] (lt-ltb x n (omega (arith, e, s)))
    ∙ ap (λ z. z ∷ links n next fuel (num next z)) e ∙ ap (λ l. y ∷ l) (links_is n next fuel (num next y) ys c.2 (omega (arith, l)))

pub links_short : (n : ℕ) (next : List ℕ) (fuel x : ℕ) → length (links n next fuel x) ≤ fuel
unfolding links
links_short n next zero x = omega arith
links_short n next (suc fuel) x = elim (cases_Bool (nat_lt x n)) [
  | inl h ↦ (let a = ap length (cond-true (nat_lt x n) (x ∷ links n next fuel (num next x)) [] h) in
      let b = links_short n next fuel (num next x) in omega (arith, a, b))
  | inr h ↦ (let a = ap length (cond-false (nat_lt x n) (x ∷ links n next fuel (num next x)) [] h) in omega (arith, a))
]

-- some members are passed, and none of them passes the test; the others are linked from j on
pub record Walks (n : ℕ) (next : List ℕ) (p : ℕ → Bool) (members : List ℕ) (j : ℕ) : Type 0 where
  pub rest : List ℕ
  pub chain : Chain n next j rest
  pub short : length rest ≤ n
  pub named : (x : ℕ) → has rest x ≡ true → has members x ≡ true
  pub past : (x : ℕ) → has members x ≡ true → (has rest x ≡ true) ⊎ (p x ≡ false)

module _ (n : ℕ) (next : List ℕ) (p : ℕ → Bool) (members : List ℕ) where
  pub walk_none : (j : ℕ) → Chain n next j members → length members ≤ n → Walks n next p members j
  walk_none j c l = record { rest = members; chain = c; short = l; named = λ x h. h; past = λ x h. inl h }

  -- the row at hand is a member, and behind it there are fewer
  next_of : (j : ℕ) (xs : List ℕ) → Chain n next j xs → j < n → (ys : List ℕ) × (xs ≡ j ∷ ys) × Chain n next (num next j) ys
  next_of j [] c l = absurd (omega (arith, c, l))
  next_of j (y ∷ ys) c l = (ys, ap (λ z. z ∷ ys) (sym c.0), subst (λ z. Chain n next (num next z) ys) (sym c.0) c.2)

  pub walk_at : (j : ℕ) → Walks n next p members j → j < n → has members j ≡ true
  walk_at j h l = let q = next_of j h.rest h.chain l in h.named j (ap (λ xs. has xs j) q.1 ∙ has_head j j q.0 refl)

  pub walk_less : (j : ℕ) → Walks n next p members j → j < n → length (links n next n (num next j)) < length (links n next n j)
  walk_less j h l = let q = next_of j h.rest h.chain l in let s = h.short in let e = ap length q.1 in
      let a = ap length (links_is n next n j h.rest h.chain s) in let b =
      ap length (links_is n next n (num next j) q.0 q.2 (omega (arith, s, e))) in omega (arith, a, b, e)

  pub walk_more : (j : ℕ) → Walks n next p members j → j < n → p j ≡ false → Walks n next p members (num next j)
  walk_more j h l off = let q = next_of j h.rest h.chain l in let s = h.short in let e = ap length q.1 in record {
    rest = q.0;
    chain = q.2;
    short = omega (arith, s, e);
    named = λ x k. h.named x (ap (λ xs. has xs x) q.1 ∙ has_tail x j q.0 k);
    past = λ x k. elim (h.past x k) [
      | inr f ↦ inr f
      | inl m ↦ elim (has_cases x j q.0 (sym (ap (λ xs. has xs x) q.1) ∙ m)) [ inl e ↦ inr (ap p e ∙ off) | inr m ↦ inl m ]
    ];
  }

  pub walk_found : (j : ℕ) → Walks n next p members j → j < n → p j ≡ true → Finds n p members j
  walk_found j h l on = inl (l, walk_at j h l, on)

  pub walk_end : (j : ℕ) → Walks n next p members j → n ≤ j → Finds n p members n
  walk_end j h l = inr (refl, λ x k. elim (h.past x k) [ inr f ↦ f | inl m ↦ absurd (none h.rest h.chain x m) ])
    where
      none : (xs : List ℕ) → Chain n next j xs → (x : ℕ) → has xs x ≡ true → ⊥
      none [] c x m = has_none x m
      none (y ∷ ys) c x m = let e = c.0 in let s = c.1 in omega (arith, e, s, l)
