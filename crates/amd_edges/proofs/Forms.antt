-- A sorted column form read as counts: any two rows of a column rise, and the pairs and the graph are the same.
use Rattle.std.proofs.Common.{◌≡◌, ◌+◌, ◌-◌, ◌^◌, ◌<◌, ◌≤◌, ℕ, ℤ, zero, suc}
use Rattle.std.proofs.Common.{Bool, true, pos, negsuc, List, length, get_or, map, refl, ap, sym}
use Rattle.std.proofs.Common.{◌∙◌, subst, arith, ltb, ◌&&◌, unsigned_abs}
use Rattle.std.specs.Prelude.{◌≤ℤ◌, ◌<ℤ◌, int_le, int_lt}
use Rattle.std.specs.Int.{FitsUnsignedBits}
use Rattle.std.specs.Ordering.{int_eq}
use Rattle.std.proofs.Math.ListN.{get_or-map}
use Rattle.std.proofs.lemmas.List.{length-map}
use Rattle.std.proofs.lemmas.Int.{ints}
use Rattle.std.proofs.lemmas.Bool.{and_parts, and_from, leb-true, ltb-true, le-leb, lt-ltb}
use Rattle.std.proofs.lemmas.Bool.Decides.{Decides-int_eq}
use Rattle.std.specs.Cmp.{both_ways}
use Rattle.amd_model.specs.Below.{count_below}
use Rattle.amd_model.specs.Input.Columns.{at, IsRow, IsColumnForm, IsSorted}
use Rattle.amd_model.specs.Input.Pattern.{holds_row, is_pair, graph_of, diagonal_count}
use Rattle.amd_model.proofs.Counting.Below.{any_from, any_gives, count_same}
use Rattle.amd_model.proofs.Patterns.Pointers.{pointer_in, small_fits}
use Rattle.amd_types.specs.Naturals.{naturals, is_entry, is_edge, count_graph}
use Rattle.amd_edges.proofs.Places.{funext2, entry_from, entry_gives}

-- a column form over counts in which any two rows of a column rise
pub record IsSortedForm (n : ℕ) (ap ai : List ℕ) : Type 0 where
  pub enough : n < length ap
  pub rising : (j : ℕ) → j < n → get_or ap j 0 ≤ get_or ap (j + 1) 0
  pub within : (j : ℕ) → j < n → get_or ap (j + 1) 0 ≤ length ai
  pub rows : (j q : ℕ) → j < n → get_or ap j 0 ≤ q → q < get_or ap (j + 1) 0 → get_or ai q 0 < n
  pub ascend : (j q r : ℕ) → j < n → get_or ap j 0 ≤ q → q < r → r < get_or ap (j + 1) 0 → get_or ai q 0 < get_or ai r 0

-- a number that is not negative is its count
pub pos_abs : (z : ℤ) → pos 0 ≤ℤ z → pos (unsigned_abs z) ≡ z
pos_abs (pos x) h = refl
pos_abs (negsuc x) h = absurd (omega (arith, ints))

pub count_is : (xs : List ℤ) (k : ℕ) → pos 0 ≤ℤ at xs k → pos (get_or (naturals xs) k 0) ≡ at xs k
count_is xs k h = ap pos (get_or-map unsigned_abs xs k (pos 0)) ∙ pos_abs _ h

-- tests of a pointer that is a count
le_test : (a k : ℕ) (z : ℤ) → pos a ≡ z → (int_le z (pos k) ≡ true → a ≤ k) × (a ≤ k → int_le z (pos k) ≡ true)
le_test a k z e = let P : ℤ → Type 0 = λ y. (int_le y (pos k) ≡ true → a ≤ k) × (a ≤ k → int_le y (pos k) ≡ true) in
    subst P e (leb-true a k, le-leb a k)

lt_test : (k b : ℕ) (z : ℤ) → pos b ≡ z → (int_lt (pos k) z ≡ true → k < b) × (k < b → int_lt (pos k) z ≡ true)
lt_test k b z e = let P : ℤ → Type 0 = λ y. (int_lt (pos k) y ≡ true → k < b) × (k < b → int_lt (pos k) y ≡ true) in
    subst P e (ltb-true k b, lt-ltb k b)

module _ (n : ℕ) (ap' ai : List ℤ) (form : IsColumnForm (pos n) n ap' ai) where
  pub pointer_is : (j : ℕ) → j ≤ n → pos (get_or (naturals ap') j 0) ≡ at ap' j
  pointer_is j h = count_is ap' j (pointer_in (pos n) n ap' ai form j h).0

  -- the places of a column hold rows
  pub row_in : (j q : ℕ) → j < n → q < get_or (naturals ap') (j + 1) 0 → IsRow (pos n) (at ai q)
  row_in j q h high =
      let is = pointer_is (j + 1) (omega arith) in
      let below = (pointer_in (pos n) n ap' ai form (j + 1) (omega arith)).1 in
      form.rows q (omega (arith, ints))

  pub row_is : (j q : ℕ) → j < n → q < get_or (naturals ap') (j + 1) 0 → pos (get_or (naturals ai) q 0) ≡ at ai q
  row_is j q h high = count_is ai q (row_in j q h high).0

  pub pointer_within : (j : ℕ) → j ≤ n → get_or (naturals ap') j 0 ≤ length ai
  pointer_within j h =
      let is = pointer_is j h in
      let below = (pointer_in (pos n) n ap' ai form j h).2 in
      omega (arith, ints)

  -- no pointer passes the last one, and so no place of a column does
  pub pointer_up : (j : ℕ) → j ≤ n → get_or (naturals ap') j 0 ≤ get_or (naturals ap') n 0
  pointer_up j h =
      let is = pointer_is j h in
      let last = pointer_is n (omega arith) in
      let up = (pointer_in (pos n) n ap' ai form j h).1 in
      omega (arith, ints)

  pub place_up : {j q end most : ℕ} → j < n → end ≡ get_or (naturals ap') (j + 1) 0 → q ≤ end → get_or (naturals ap') n 0 ≤ most → q ≤ most
  place_up {j} h is low small = let up = pointer_up (j + 1) (omega (arith, h)) in omega (arith, is, low, small, up)

  -- the numbers that are read are counts of 64 bits
  pub pointer_fits : (j : ℕ) → j ≤ n → length ai < 2 ^ 64 → FitsUnsignedBits 64 (at ap' j)
  pointer_fits j h short = let p = pointer_in (pos n) n ap' ai form j h in small_fits _ (length ai) p.0 p.2 short

  pub row_fits : (j q : ℕ) → j < n → q < get_or (naturals ap') (j + 1) 0 → n < 2 ^ 64 → FitsUnsignedBits 64 (at ai q)
  row_fits j q h high short = let r = row_in j q h high in let below = r.1 in small_fits _ n r.0 (omega (arith, ints)) short

  pub place_within : (j q : ℕ) → j < n → q < get_or (naturals ap') (j + 1) 0 → q < length ai
  place_within j q h high = let w = pointer_within (j + 1) (omega arith) in omega arith

  module _ (sorted : IsSorted n ap' ai) where
    next_row : (j q : ℕ) → j < n → get_or (naturals ap') j 0 ≤ q → q + 1 < get_or (naturals ap') (j + 1) 0 →
        get_or (naturals ai) q 0 < get_or (naturals ai) (q + 1) 0
    next_row j q h low high =
        let from = pointer_is j (omega arith) in
        let to = pointer_is (j + 1) (omega arith) in
        let step : at ai q <ℤ at ai (q + 1) = sorted j q h (omega (arith, ints)) (omega (arith, ints)) in
        let a = row_is j q h (omega arith) in
        let b = row_is j (q + 1) h high in
        omega (arith, ints)

    -- rows of a column rise over any stretch
    rise : (j q d : ℕ) → j < n → get_or (naturals ap') j 0 ≤ q → q + suc d < get_or (naturals ap') (j + 1) 0 →
        get_or (naturals ai) q 0 < get_or (naturals ai) (q + suc d) 0
    rise j q zero h low high = let e : q + suc zero ≡ q + 1 = omega arith in rw e (next_row j q h low (omega arith))
    rise j q (suc d) h low high =
        let e : q + suc (suc d) ≡ q + suc d + 1 = omega arith in
        let before = rise j q d h low (omega arith) in
        let last = next_row j (q + suc d) h (omega arith) (omega arith) in
        rw e (omega (arith, before, last))

    pub sorted_form : IsSortedForm n (naturals ap') (naturals ai)
    sorted_form = record {
      enough = (let x = form.enough in rw length-map (omega arith));
      rising = λ j h. (let a = pointer_is j (omega arith) in let b = pointer_is (j + 1) (omega arith) in let c = form.ascending j h in
          omega (arith, ints));
      within = λ j h. rw length-map (pointer_within (j + 1) (omega arith));
      rows = λ j q h low high. (let a = row_is j q h high in let b = (row_in j q h high).1 in omega (arith, ints));
      ascend = λ j q r h low lt high. (let e : q + suc (r - q - 1) ≡ r = omega arith in
          let w = rise j q (r - q - 1) h low (omega arith) in rw e at w);
    }

  -- the pairs of the pattern are the entries of the counts
  pub same_pair : (i j : ℕ) → is_pair n ap' ai i j ≡ is_entry n (naturals ap') (naturals ai) i j
  unfolding is_pair holds_row
  same_pair i j = both_ways _ _
      (λ e. let outer = and_parts (ltb i n && ltb j n) _ e in
      let sizes = and_parts (ltb i n) (ltb j n) outer.0 in
      let h = ltb-true j n sizes.1 in
      let k = any_gives (length ai) _ outer.1 in
      let tests = and_parts (int_le (at ap' j) (pos k.0) && int_lt (pos k.0) (at ap' (j + 1))) (int_eq (at ai k.0) (pos i)) k.2 in
      let bounds = and_parts (int_le (at ap' j) (pos k.0)) (int_lt (pos k.0) (at ap' (j + 1))) tests.0 in
      let low = (le_test (get_or (naturals ap') j 0) k.0 (at ap' j) (pointer_is j (omega arith))).0 bounds.0 in
      let high = (lt_test k.0 (get_or (naturals ap') (j + 1) 0) (at ap' (j + 1)) (pointer_is (j + 1) (omega arith))).0 bounds.1 in
      let row = (Decides-int_eq (at ai k.0) (pos i)).0 tests.1 in
      let is = row_is j k.0 h high in
      entry_from (naturals ap') (naturals ai) n i j k.0 h low high (omega (arith, ints)))
      (λ e. let r = entry_gives (naturals ap') (naturals ai) n i j e in
      let h = r.1 in
      let high = r.3 in
      let is = row_is j r.0 h high in
      let below = (row_in j r.0 h high).1 in
      let row : at ai r.0 ≡ pos i = sym is ∙ ap pos r.4 in
      let within = pointer_within (j + 1) (omega arith) in
      let small : i < n = omega (arith, ints) in
      let low_test = (le_test (get_or (naturals ap') j 0) r.0 (at ap' j) (pointer_is j (omega arith))).1 r.2 in
      let high_test = (lt_test r.0 (get_or (naturals ap') (j + 1) 0) (at ap' (j + 1)) (pointer_is (j + 1) (omega arith))).1 high in
      and_from (ltb i n && ltb j n) _ (and_from (ltb i n) (ltb j n) (lt-ltb i n small) (lt-ltb j n h))
      (any_from (length ai) _ r.0 (omega arith)
      (and_from (int_le (at ap' j) (pos r.0) && int_lt (pos r.0) (at ap' (j + 1))) (int_eq (at ai r.0) (pos i))
      (and_from (int_le (at ap' j) (pos r.0)) (int_lt (pos r.0) (at ap' (j + 1))) low_test high_test)
      ((Decides-int_eq (at ai r.0) (pos i)).1 row))))

  pub same_graph : graph_of n ap' ai ≡ count_graph n (naturals ap') (naturals ai)
  unfolding graph_of is_edge
  same_graph = ap (λ (e : ℕ → ℕ → Bool). record { size = n; edge = e }) (funext2 _ _ (λ i j. rw (same_pair i j, same_pair j i) refl))

  pub same_diagonals : diagonal_count n ap' ai ≡ count_below n (λ j. is_entry n (naturals ap') (naturals ai) j j)
  unfolding diagonal_count
  same_diagonals = count_same n _ _ (λ k h. same_pair k k)

-- a place before the end of a column is one of the rows as the caller has them
pub place_in : {A : Type 0} (value : A → ℤ) (rows : List A) (n : ℕ) (ap' : List ℤ) → IsColumnForm (pos n) n ap' (map value rows) →
    (j q end : ℕ) → j < n → end ≡ get_or (naturals ap') (j + 1) 0 → q < end → q < length rows
place_in value rows n ap' form j q end h is high = subst (λ x. q < x) (length-map rows value)
    (place_within n ap' (map value rows) form j q h (omega (arith, is, high)))

-- the pointers and the rows of a column, as the caller has them, are in their lists, and counts of 64 bits
module _ {A : Type 0} (value : A → ℤ) (pointers rows : List A) (n : ℕ)
    (form : IsColumnForm (pos n) n (map value pointers) (map value rows)) where
  pub pointer_read : (j : ℕ) → j ≤ n → length rows < 2 ^ 64 → (j < length pointers) × FitsUnsignedBits 64 (at (map value pointers) j)
  pointer_read j h short = (
    (let enough = form.enough in let long = length-map pointers value in omega (arith, enough, long, h)),
    pointer_fits n (map value pointers) (map value rows) form j h (subst (λ x. x < 2 ^ 64) (sym (length-map rows value)) short),
  )

  pub row_read : (j q end : ℕ) → j < n → end ≡ get_or (naturals (map value pointers)) (j + 1) 0 → q < end → n < 2 ^ 64 →
      (q < length rows) × FitsUnsignedBits 64 (at (map value rows) q)
  row_read j q end h is high short = (
    place_in value rows n (map value pointers) form j q end h is high,
    row_fits n (map value pointers) (map value rows) form j q h (omega (arith, is, high)) short,
  )
