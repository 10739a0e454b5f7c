-- Descents of a list of rows: where they stand only at the first places of columns, each column rises.
use Rattle.std.proofs.Common.{◌≡◌, ◌+◌, ◌-◌, ◌<◌, ◌≤◌, ◌≤ℤ◌, ◌<ℤ◌, ◌∙◌, inl, inr, refl, ℕ, ℤ, zero, suc, pos, List, Bool, true, false}
use Rattle.std.proofs.Common.{length, max, cond, arith, sym, ap, subst, nat_lt, int_le}
use mir.Val.{bool_byte}
use Rattle.std.proofs.lemmas.Bool.{true≢false, cases_Bool, cases_lt, and_cases, lt-ltb}
use Rattle.std.proofs.lemmas.Int.{ints}
use Rattle.amd_model.specs.Below.{sum_below, count_below}
use Rattle.amd_model.specs.Input.Columns.{at, IsColumnForm, IsSorted}
use Rattle.amd_model.proofs.Counting.Below.{sum_stretch, sum_upto, count_most}
use Rattle.amd_input.specs.Scans.{Rise, is_descent, descents_below}
use Rattle.amd_input.proofs.Classes.{rising_rows, form_more, run_more}
use Rattle.amd_types.specs.declared.amd.Status.TheVariants.{OK}

-- one place more
descents_more : (ai : List ℤ) (k : ℕ) → descents_below ai (k + 1) ≡ descents_below ai k + cond (is_descent ai k) 1 0
unfolding count_below sum_below
descents_more ai k = let e : k + 1 ≡ suc k = omega arith in rw e (omega arith)

-- the first place of all is no descent
pub descents_first : (ai : List ℤ) (b : ℕ) → b ≤ 1 → descents_below ai b ≡ 0
unfolding count_below sum_below
descents_first ai zero h = refl
descents_first ai (suc zero) h = refl
descents_first ai (suc (suc b)) h = absurd (omega (arith, h))

-- a count from a place on may as well begin behind the first one of all
pub descents_start : (ai : List ℤ) (a b : ℕ) → b ≡ max a 1 → descents_below ai a ≡ descents_below ai b
descents_start ai a b e = elim (cases_lt a 1) [
  | inl x ↦ descents_first ai a (omega arith) ∙ sym (descents_first ai b (omega arith))
  | inr x ↦ ap (descents_below ai) (omega arith)
]

-- the first place has none before it, which is all that a test of it asks
pub first_place : (ai : List ℤ) (k : ℕ) → k ≤ 0 → nat_lt 0 k ≡ is_descent ai k
first_place ai zero h = refl
first_place ai (suc k) h = absurd (omega (arith, h))

-- at most each place is a descent
pub descents_most : (ai : List ℤ) (b : ℕ) → descents_below ai b ≤ b
descents_most ai b = count_most b (is_descent ai)

-- more places have no fewer descents
pub descents_stretch : (ai : List ℤ) (a b : ℕ) → a ≤ b → descents_below ai a ≤ descents_below ai b
unfolding count_below
descents_stretch ai a b h =
    let f : ℕ → ℕ = λ k. cond (is_descent ai k) 1 0 in
    let e : a + (b - a) ≡ b = omega arith in
    subst (λ z. sum_below a f ≤ sum_below z f) e (sum_stretch (b - a) a f)

-- the next place, as a test of it counts
pub descents_counted : (ai : List ℤ) (k one : ℕ) (b : Bool) → b ≡ is_descent ai k → one ≡ bool_byte b →
    descents_below ai (k + 1) ≡ descents_below ai k + one
descents_counted ai k one b is e = descents_more ai k ∙ ap (λ z. descents_below ai k + z) (ap (λ z. cond z 1 0) (sym is) ∙ byte b ∙ sym e)
  where
    byte : (b : Bool) → cond b 1 0 ≡ bool_byte b
    byte true = refl
    byte false = refl

-- a number that another one is not at most is less than it
not_less : (x y : ℤ) → int_le x y ≡ false → y <ℤ x
not_less x y e = grind (arith, ints)

-- a number at a place behind another that is no descent is greater
ascent : (ai : List ℤ) (k : ℕ) → is_descent ai (k + 1) ≡ false → at ai k <ℤ at ai (k + 1)
ascent ai k no' =
    let back : k + 1 - 1 ≡ k = omega arith in
    elim (and_cases (nat_lt 0 (k + 1)) (int_le (at ai (k + 1)) (at ai (k + 1 - 1))) no') [
      | inl x ↦ absurd (true≢false (sym (lt-ltb 0 (k + 1) (omega arith)) ∙ x))
      | inr x ↦ subst (λ z. at ai z <ℤ at ai (k + 1)) back (not_less (at ai (k + 1)) (at ai (k + 1 - 1)) x)
    ]

-- where no place behind the first one is a descent, the numbers rise
pub no_descent : (ai : List ℤ) (a b : ℕ) → descents_below ai b ≤ descents_below ai (a + 1) → Rise ai a b
unfolding count_below
no_descent ai a b few k low high = elim (cases_Bool (is_descent ai (k + 1))) [
  | inl yes' ↦
      (let f : ℕ → ℕ = λ z. cond (is_descent ai z) 1 0 in
      let one : f (k + 1) ≡ 1 = ap (λ z. cond z 1 0) yes' in
      let upto : f (k + 1) + sum_below (k + 1) f ≤ sum_below b f = sum_upto (k + 1) b f high in
      let before : sum_below (a + 1) f ≤ sum_below (k + 1) f = descents_stretch ai (a + 1) (k + 1) (omega arith) in
      let little : sum_below b f ≤ sum_below (a + 1) f = few in
      absurd (omega arith))
  | inr no' ↦ ascent ai k no'
]

module _ (m : ℤ) (ap' ai : List ℤ) where
  -- so many descents stand at the first places of the columns so far, and if at no other, these are a sorted column form
  pub record AreFirsts (j from firsts : ℕ) : Type 0 where
    pub most : firsts ≤ descents_below ai from
    pub form : firsts ≡ descents_below ai from → IsColumnForm m j ap' ai
    pub sorted : firsts ≡ descents_below ai from → IsSorted j ap' ai

  -- one more column, which is empty
  pub firsts_empty : (j from firsts : ℕ) → at ap' j ≡ pos from → at ap' (j + 1) ≡ pos from → from ≤ length ai → j + 1 < length ap' →
      AreFirsts j from firsts → AreFirsts (j + 1) from firsts
  firsts_empty j from firsts a b inside room h = record {
    most = h.most;
    form = λ e. form_more m ap' ai j from from (h.form e) a b (omega arith) inside room (λ k low high. absurd (omega (arith, low, high)));
    sorted = λ e. run_more m ap' ai j from from OK a b (λ k low high. absurd (omega (arith, low, high))) (h.sorted e);
  }

  -- one more column with rows, of which the first and the last lie in range
  pub firsts_more : (j from to firsts one new : ℕ) → at ap' j ≡ pos from → at ap' (j + 1) ≡ pos to → from < to → to ≤ length ai →
      j + 1 < length ap' → pos 0 ≤ℤ at ai from → at ai (to - 1) <ℤ m → descents_below ai (from + 1) ≡ descents_below ai from + one →
      new ≡ firsts + one → AreFirsts j from firsts → AreFirsts (j + 1) to new
  firsts_more j from to firsts one new a b some inside room low high count is h =
      let most = h.most in
      let behind : descents_below ai (from + 1) ≤ descents_below ai to = descents_stretch ai (from + 1) to (omega arith) in
      let old : new ≡ descents_below ai to → firsts ≡ descents_below ai from = λ e. omega arith in
      let up : new ≡ descents_below ai to → Rise ai from to = λ e. no_descent ai from to (omega arith) in
      record {
        most = omega arith;
        form = λ e. form_more m ap' ai j from to (h.form (old e)) a b (omega arith) inside room
            (rising_rows m ai from to some (up e) low high);
        sorted = λ e. run_more m ap' ai j from to OK a b (up e) (h.sorted (old e));
      }
