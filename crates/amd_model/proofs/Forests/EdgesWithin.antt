-- The number of edges among the rows that pass a test.
use Rattle.std.proofs.Common.{ℕ, zero, suc, Bool, true, false, ◌≡◌, ◌≢◌, ◌<◌, ◌+◌, ◌&&◌, not, cond, inl, inr, refl, sym, ◌∙◌, ap, arith}
use Rattle.std.specs.Prelude.{◌==◌}
use Rattle.std.proofs.lemmas.Bool.{cases_eq, eq-eqb, ne_eqb}
use Rattle.amd_model.specs.Below.{sum_below, count_below}
use Rattle.amd_model.proofs.Counting.Below.{sum_same, count_same, count_zero}
use Rattle.amd_model.proofs.Counting.Points.{count_drop}

-- the edges among the rows below n that pass, each counted at the greater one of its rows
unfoldable pub within : (ℕ → ℕ → Bool) → ℕ → (ℕ → Bool) → ℕ
within edge n p = sum_below n (λ w. count_below w (λ v. p w && (p v && edge w v)))

-- the test without x
unfoldable pub without : (ℕ → Bool) → ℕ → ℕ → Bool
without p x v = p v && not (v == x)

pub within_same : (edge : ℕ → ℕ → Bool) (n : ℕ) (p q : ℕ → Bool) →
    ((w v : ℕ) → w < n → v < n → (p w && (p v && edge w v)) ≡ (q w && (q v && edge w v))) → within edge n p ≡ within edge n q
unfolding within
within_same edge n p q same = sum_same n (λ w. count_below w (λ v. p w && (p v && edge w v)))
    (λ w. count_below w (λ v. q w && (q v && edge w v)))
    (λ w lw. count_same w (λ v. p w && (p v && edge w v)) (λ v. q w && (q v && edge w v)) (λ v lv. same w v lw (omega arith)))

without_parts : (p : ℕ → Bool) (x v : ℕ) → (p v && not (v == x)) ≡ without p x v
unfolding without
without_parts p x v = refl

without_other : (p : ℕ → Bool) (x v : ℕ) → v ≢ x → without p x v ≡ p v
unfolding without
without_other p x v ne = kept (p v) (v == x) (ne_eqb v x ne)
  where
    kept : (a b : Bool) → b ≡ false → (a && not b) ≡ a
    kept true b q = ap not q
    kept false b q = refl

without_it : (p : ℕ → Bool) (x v : ℕ) → v ≡ x → without p x v ≡ false
unfolding without
without_it p x v e = dropped (p v) (v == x) (eq-eqb v x e)
  where
    dropped : (a b : Bool) → b ≡ true → (a && not b) ≡ false
    dropped true b q = ap not q
    dropped false b q = refl

module _ (edge : ℕ → ℕ → Bool) (symmetric : (v w : ℕ) → edge v w ≡ edge w v) (no_loop : (v : ℕ) → edge v v ≡ false) where
  -- a row takes with it the edges to the other rows
  pub within_without : (n : ℕ) (p : ℕ → Bool) (x : ℕ) → x < n → p x ≡ true →
      within edge n p ≡ within edge n (without p x) + count_below n (λ v. p v && edge x v)
  unfolding within count_below sum_below
  within_without zero p x l is = absurd (omega arith)
  within_without (suc n) p x l is = elim (cases_eq x n) [
    | inl q ↦ (
        let rest : within edge n p ≡ within edge n (without p x) = within_same edge n p (without p x) (λ w v lw lv.
        let a = without_other p x w (λ e. absurd (omega arith)) in let b = without_other p x v (λ e. absurd (omega arith)) in cc) in
        let row : count_below n (λ v. p n && (p v && edge n v)) ≡ count_below n (λ v. p v && edge x v)
        = count_same n (λ v. p n && (p v && edge n v)) (λ v. p v && edge x v)
        (λ v lv. ap (λ b. b && (p v && edge n v)) (ap p (sym q) ∙ is) ∙ ap (λ m. p v && edge m v) (sym q)) in
        let none' : count_below n (λ v. without p x n && (without p x v && edge n v)) ≡ 0
        = count_zero n (λ v. without p x n && (without p x v && edge n v))
        (λ v lv. ap (λ b. b && (without p x v && edge n v)) (without_it p x n (sym q))) in
        let loop' : cond {A = ℕ} (p n && edge x n) 1 0 ≡ 0 =
        ap (λ b. cond {A = ℕ} b 1 0) (unjoined (p n) (edge x n) (ap (edge x) (sym q) ∙ no_loop x)) in
        omega arith)
    | inr ne ↦ (
        let rest : within edge n p ≡ within edge n (without p x) + count_below n (λ v. p v && edge x v) =
        within_without n p x (omega arith) is in
        let drop : count_below n (λ v. p n && (p v && edge n v)) ≡ count_below n (λ k. (p n && (p k && edge n k)) && not (k == x)) + cond
        (p n && (p x && edge n x)) 1 0
        = count_drop n (λ v. p n && (p v && edge n v)) x (omega arith) in
        let row : count_below n (λ k. (p n && (p k && edge n k)) && not (k == x)) ≡ count_below n
        (λ v. without p x n && (without p x v && edge n v))
        = count_same n (λ k. (p n && (p k && edge n k)) && not (k == x)) (λ v. without p x n && (without p x v && edge n v))
        (λ k lk. regroup (p n) (without p x n) (p k) (edge n k) (not (k == x)) (sym (without_other p x n (λ e. ne (sym e)))) ∙
        ap (λ b. without p x n && (b && edge n k)) (without_parts p x k)) in
        let it : cond {A = ℕ} (p n && (p x && edge n x)) 1 0 ≡ cond {A = ℕ} (p n && edge x n) 1 0
        = ap (λ b. cond {A = ℕ} b 1 0) (ap (λ b. p n && (b && edge n x)) is ∙ ap (λ b. p n && b) (symmetric n x)) in
        omega arith)
  ]
    where
      unjoined : (a b : Bool) → b ≡ false → (a && b) ≡ false
      unjoined true b q = q
      unjoined false b q = refl

      swap : (b e d : Bool) → ((b && e) && d) ≡ ((b && d) && e)
      swap true true true = refl
      swap true true false = refl
      swap true false true = refl
      swap true false false = refl
      swap false e d = refl

      regroup : (a a' b e d : Bool) → a ≡ a' → ((a && (b && e)) && d) ≡ (a' && ((b && d) && e))
      regroup true a' b e d q = swap b e d ∙ ap (λ z. z && ((b && d) && e)) q
      regroup false a' b e d q = ap (λ z. z && ((b && d) && e)) q
