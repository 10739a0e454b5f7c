-- What is written for each row that words name, one word after another.
use Rattle.std.proofs.Common.{ℕ, ℤ, Bool, true, false, List, ◌≡◌, ◌+◌, ◌-◌, ◌&&◌, ◌||◌, cond, inl, inr, refl, sym, ap, ◌∙◌}
use Rattle.std.specs.Prelude.{◌==◌}
use Rattle.std.proofs.Math.Bool.{or-false}
use Rattle.std.proofs.lemmas.Bool.{cases_eq, eq-eqb, ne_eqb, cond-true, cond-false, or_right}
use Rattle.amd_model.specs.Quotient.{has}
use Rattle.amd_words.specs.Words.{word, place, rows}
use Rattle.amd_words.proofs.WordMarks.{rows_start, rows_next}

-- two tests, one behind the other
pub cond_both : {A : Type 0} (a b : Bool) (x y : A) → cond (a && b) x y ≡ cond a (cond b x y) y
cond_both true b x y = refl
cond_both false b x y = refl

-- a test between equals
pub cond_same : {A : Type 0} (a : Bool) (x : A) → cond a x x ≡ x
cond_same true x = refl
cond_same false x = refl

pub each_none : {A : Type 0} (iw : List ℤ) (from : ℕ) (g a : ℕ → A) (x : ℕ) → g x ≡ cond (has (rows iw from (from - from)) x) (a x) (g x)
unfolding has
each_none iw from g a x = sym (ap (λ xs. cond (has xs x) (a x) (g x)) (rows_start iw from))

module _ {A : Type 0} (iw : List ℤ) (from k : ℕ) (g0 g a : ℕ → A)
    (before : (x : ℕ) → g x ≡ cond (has (rows iw from k) x) (a x) (g0 x)) where
  -- what was not named yet is as it was
  pub each_fresh : (y : ℕ) → has (rows iw from k) y ≡ false → g y ≡ g0 y
  each_fresh y fresh = before y ∙ cond-false (has (rows iw from k) y) (a y) (g0 y) fresh

  pub each_next : (y : ℕ) → y ≡ place (word iw (from + k)) → has (rows iw from k) y ≡ false → (g' : ℕ → A) → (g y ≡ g0 y → g' y ≡ a y) →
      ((x : ℕ) → (x ≡ y → ⊥) → g' x ≡ g x) → (x : ℕ) → g' x ≡ cond (has (rows iw from (k + 1)) x) (a x) (g0 x)
  each_next y is fresh g' here there x = elim (cases_eq x y) [
    | inl q ↦ rw q (here (each_fresh y fresh) ∙ sym (cond-true (has (rows iw from (k + 1)) y) (a y) (g0 y)
        (rows_next iw from k y ∙ or_right (has (rows iw from k) y) (place (word iw (from + k)) == y) (eq-eqb (place (word iw
        (from + k))) y (sym is)))))
    | inr ne ↦ there x ne ∙ before x ∙ sym (ap (λ b. cond b (a x) (g0 x)) (rows_next iw from k x
        ∙ ap (λ b. has (rows iw from k) x || b) (ne_eqb (place (word iw (from + k))) x (λ e. ne (sym e ∙ sym is)))
        ∙ or-false (has (rows iw from k) x)))
  ]
