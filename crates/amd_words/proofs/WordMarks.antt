-- The rows that words name, marked with a flag one by one.
use Rattle.std.proofs.Common.{ℕ, ℤ, Bool, true, false, List, [], ◌∷◌, ◌≡◌, ◌<◌, ◌+◌, ◌-◌, ◌||◌, cond, inl, inr, refl, sym, ap, ◌∙◌, arith}
use Rattle.std.proofs.Common.{length, ◌&&◌, not}
use Rattle.std.proofs.Common.{set, get_or-set_same, get_or-set_other}
use Rattle.std.specs.Prelude.{◌==◌}
use Rattle.std.proofs.Math.Bool.{or-false}
use Rattle.std.proofs.lemmas.Bool.{cases_eq, eq-eqb, ne_eqb, cond-true, or_right}
use Rattle.amd_model.specs.Quotient.{has, each}
use Rattle.amd_model.proofs.Quotient.Lists.{has_append, each_gives, each_from}
use Rattle.amd_model.proofs.Listings.Words.{has_cases, has_none}
use Rattle.amd_words.specs.Words.{num, word, place, rows}
use Rattle.amd_words.proofs.RowLists.{rows_none, rows_more}

pub rows_start : (iw : List ℤ) (from : ℕ) → rows iw from (from - from) ≡ []
rows_start iw from = let z : from - from ≡ 0 = omega arith in ap (rows iw from) z ∙ rows_none iw from

-- what one more word names
pub rows_next : (iw : List ℤ) (from k x : ℕ) → has (rows iw from (k + 1)) x ≡ (has (rows iw from k) x || place (word iw (from + k)) == x)
unfolding has
rows_next iw from k x = ap (λ l. has l x) (rows_more iw from k) ∙ has_append (rows iw from k) (place (word iw (from + k)) ∷ []) x
    ∙ ap (λ b. has (rows iw from k) x || b) (or-false (place (word iw (from + k)) == x))

-- what is marked after some words
abbrev pub Marked : List ℤ → ℕ → ℕ → ℕ → List ℕ → List ℕ → Type 0
Marked iw from k flag w0 w = (x : ℕ) → num w x ≡ cond (has (rows iw from k) x) flag (num w0 x)

pub marked_none : (iw : List ℤ) (from flag : ℕ) (w : List ℕ) → Marked iw from (from - from) flag w w
unfolding has
marked_none iw from flag w x = sym (ap (λ xs. cond (has xs x) flag (num w x)) (rows_start iw from))

pub marked_more : (iw : List ℤ) (from k flag : ℕ) (w0 w : List ℕ) → Marked iw from k flag w0 w → (y : ℕ) →
    y ≡ place (word iw (from + k)) → y < length w → Marked iw from (k + 1) flag w0 (set w y flag)
marked_more iw from k flag w0 w before y is small x = elim (cases_eq x y) [
  | inl q ↦ ap (num (set w y flag)) q ∙ get_or-set_same w y flag 0 small
      ∙ sym (cond-true (has (rows iw from (k + 1)) x) flag (num w0 x) (rows_next iw from k x
      ∙ or_right (has (rows iw from k) x) (place (word iw (from + k)) == x) (eq-eqb (place (word iw (from + k))) x (sym is ∙ sym q))))
  | inr ne ↦ get_or-set_other w y x flag 0 ne ∙ before x
      ∙ sym (ap (λ b. cond b flag (num w0 x)) (rows_next iw from k x
      ∙ ap (λ b. has (rows iw from k) x || b) (ne_eqb (place (word iw (from + k))) x (λ e. ne (sym e ∙ sym is)))
      ∙ or-false (has (rows iw from k) x)))
]

-- a counter that was below the flag, marked with it or not
pub marked_below : (is_marked : Bool) (flag v : ℕ) → v < flag → cond is_marked flag v < flag + 1
marked_below true flag v low = omega arith
marked_below false flag v low = omega (arith, low)

pub marked_zero : (is_marked : Bool) (flag v : ℕ) → (is_marked ≡ true → 0 < v) → v < flag → (cond is_marked flag v == 0) ≡ (v == 0)
marked_zero true flag v stands low =
    let some = stands refl in ne_eqb flag 0 (λ e. omega (arith, low, e)) ∙ sym (ne_eqb v 0 (λ e. omega (arith, some, e)))
marked_zero false flag v stands low = refl

-- what all of some words pass
pub each_none : (p : ℕ → Bool) (iw : List ℤ) (from : ℕ) → each p (rows iw from (from - from)) ≡ true
unfolding each
each_none p iw from = ap (each p) (rows_start iw from)

pub each_more : (p : ℕ → Bool) (iw : List ℤ) (from k : ℕ) → each p (rows iw from k) ≡ true → p (place (word iw (from + k))) ≡ true →
    each p (rows iw from (k + 1)) ≡ true
unfolding has
each_more p iw from k h here = each_from p (rows iw from (k + 1)) (λ x m. elim (has_parts x m) [
  | inl q ↦ each_gives p (rows iw from k) h x q
  | inr q ↦ ap p q ∙ here
])
  where
    has_parts : (x : ℕ) → has (rows iw from (k + 1)) x ≡ true →
        Rattle.std.specs.Prelude.◌⊎◌ (has (rows iw from k) x ≡ true) (x ≡ place (word iw (from + k)))
    has_parts x m = elim (Rattle.amd_model.proofs.Listings.Words.has_append x (rows iw from k) (place (word iw (from + k)) ∷ [])
        (sym (ap (λ l. has l x) (rows_more iw from k)) ∙ m)) [
          | inl q ↦ inl q
          | inr q ↦ elim (has_cases x (place (word iw (from + k))) [] q) [ inl e ↦ inr e | inr e ↦ absurd (has_none x e) ]
        ]

-- what is off stays off
pub both_not : (a b c : Bool) → ((a && not b) && not c) ≡ (a && not (b || c))
both_not true true c = refl
both_not true false c = refl
both_not false b c = refl
