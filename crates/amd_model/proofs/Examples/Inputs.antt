-- Column forms, jumbled columns and thresholds, evaluated.
use Rattle.std.proofs.Common.{ℕ, ℤ, pos, negsuc, Bool, true, ◌≡◌, ◌<◌, ◌≤◌, ◌+◌, ◌*◌, ◌&&◌, zero, suc, inl, inr, refl, arith, List, [], ◌∷◌}
use Rattle.std.proofs.Common.{length}
use Rattle.std.specs.Prelude.{◌≤ℤ◌, ◌<ℤ◌, int_le, int_lt, nat_lt}
use Rattle.std.proofs.lemmas.Int.{ints}
use Rattle.std.proofs.lemmas.Bool.{and_parts, cases_lt, ltb-true}
use Rattle.std.proofs.Math.Nat.{mul-le-mul_left, mul-le-mul_right}
use Rattle.amd_model.specs.Below.{all_below}
use Rattle.amd_model.specs.Input.Columns.{at, IsColumnForm, IsInput, IsJumbledInput}
use Rattle.amd_model.specs.Input.Dense.{IsThreshold}
use Rattle.amd_model.specs.Examples.Cycle.{pointers, rows}
use Rattle.amd_model.proofs.Counting.Below.{all_gives}

le_gives : (a b : ℤ) → int_le a b ≡ true → a ≤ℤ b
le_gives a b h = grind (arith, ints)

lt_gives : (a b : ℤ) → int_lt a b ≡ true → a <ℤ b
lt_gives a b h = grind (arith, ints)

module _ (m : ℤ) (n : ℕ) (ap ai : List ℤ) where
  unfoldable ascends_at : ℕ → Bool
  ascends_at j = int_le (at ap j) (at ap (j + 1))

  unfoldable row_at : ℕ → Bool
  row_at k = int_le (pos 0) (at ai k) && int_lt (at ai k) m

  -- the tests of a column form
  unfoldable form_test : Bool
  form_test = nat_lt n (length ap) && all_below n ascends_at && int_le (at ap n) (pos (length ai)) && all_below (length ai) row_at

  form_from : at ap 0 ≡ pos 0 → form_test ≡ true → IsColumnForm m n ap ai
  unfolding form_test ascends_at row_at
  form_from first passed =
      let a = and_parts (nat_lt n (length ap) && all_below n ascends_at && int_le (at ap n) (pos (length ai)))
      (all_below (length ai) row_at) passed in
      let b = and_parts (nat_lt n (length ap) && all_below n ascends_at) (int_le (at ap n) (pos (length ai))) a.0 in
      let c = and_parts (nat_lt n (length ap)) (all_below n ascends_at) b.0 in
      let within : at ap n ≤ℤ pos (length ai) = le_gives (at ap n) (pos (length ai)) b.1 in
      record {
        enough = ltb-true n (length ap) c.0;
        first = first;
        ascending = λ j l. le_gives (at ap j) (at ap (j + 1)) (all_gives n ascends_at c.1 j l);
        within = within;
        rows = λ k h. let l : k < length ai = omega (arith, ints, h, within) in
            let r = and_parts (int_le (pos 0) (at ai k)) (int_lt (at ai k) m) (all_gives (length ai) row_at a.1 k l) in
            (le_gives (pos 0) (at ai k) r.0, lt_gives (at ai k) m r.1);
      }

pub cycle_form : IsInput (pos 4) (pos 4) pointers rows
unfolding all_below form_test ascends_at row_at
cycle_form = form_from (pos 4) 4 pointers rows refl refl

pub jumbled_form : IsInput (pos 2) (pos 2) (pos 0 ∷ pos 2 ∷ pos 2 ∷ []) (pos 1 ∷ pos 1 ∷ [])
unfolding all_below form_test ascends_at row_at
jumbled_form = form_from (pos 2) 2 (pos 0 ∷ pos 2 ∷ pos 2 ∷ []) (pos 1 ∷ pos 1 ∷ []) refl refl

-- a row that stands twice in a column makes it jumbled
pub jumbled : IsJumbledInput (pos 2) (pos 0 ∷ pos 2 ∷ pos 2 ∷ []) (pos 1 ∷ pos 1 ∷ [])
jumbled = (0, 0, omega arith, le_gives (pos 0) (pos 0) refl, lt_gives (pos 1) (pos 2) refl, le_gives (pos 1) (pos 1) refl)

-- a column of one row is not
pub not_jumbled : IsJumbledInput (pos 2) (pos 0 ∷ pos 1 ∷ pos 2 ∷ []) (pos 1 ∷ pos 0 ∷ []) → ⊥
not_jumbled (zero, k, l, a, b, c) = let h : pos (k + 1) <ℤ pos 1 = b in omega (arith, ints, h)
not_jumbled (suc zero, k, l, a, b, c) = let g : pos 1 ≤ℤ pos k = a in let h : pos (k + 1) <ℤ pos 2 = b in omega (arith, ints, g, h)
not_jumbled (suc (suc j), k, l, a, b, c) = omega (arith, l)

below_itself : (x y z u : ℕ) → x ≤ y → y ≤ z → z ≤ u → u < x → ⊥
below_itself x y z u h k l m = omega (arith, h, k, l, m)

-- the root is the greatest number if the next one is too great
root_most : (t n d : ℕ) → t * t * n < (1000 * (d + 1)) * (1000 * (d + 1)) → (e : ℕ) → (1000 * e) * (1000 * e) ≤ t * t * n → e ≤ d
root_most t n d next e h = elim (cases_lt d e) [
  | inr l ↦ l
  | inl l ↦ absurd (let a : ℕ = 1000 * (d + 1) in let b : ℕ = 1000 * e in let ab : a ≤ b = omega (arith, l) in
      let p : a * a ≤ a * b = mul-le-mul_left a ab in let q : a * b ≤ b * b = mul-le-mul_right b ab in
      below_itself (a * a) (a * b) (b * b) (t * t * n) p q h next)
]

pub threshold : IsThreshold 400 (pos 1000) 20
threshold = (20, record { has = omega arith; most = root_most 1000 400 20 (omega arith) }, refl)

pub raised : IsThreshold 400 (pos 0) 16
raised = (0, record { has = omega arith; most = root_most 0 400 0 (omega arith) }, refl)

pub cut : IsThreshold 9 (pos 10000) 9
cut = (30, record { has = omega arith; most = root_most 10000 9 30 (omega arith) }, refl)

pub none_held : IsThreshold 30 (negsuc 499) 28
none_held = (28, refl, refl)
