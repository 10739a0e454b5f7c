-- The earlier neighbours of a pattern without an entry above the diagonal, written band by band: of each column the rows of one band.
use Rattle.std.proofs.Common.{◌≡◌, ◌≢◌, ◌<◌, ◌≤◌, ◌+◌, inl, inr, ℕ, ℤ, false, List, [], ◌∷◌, ◌++◌, pos, ltb, length}
use Rattle.std.proofs.Common.{arith, refl, ap, sym, subst, ◌∙◌, get_or, set}
use Rattle.std.proofs.lemmas.Bool.{and_parts, cases_lt, lt-ltb, ltb-true, false_from_ne_true}
use Rattle.std.proofs.lemmas.List.{length-append}
use Rattle.amd_round_laws.proofs.Lists.Rising.{list_yes, list_no}
use Rattle.amd_model.specs.Below.{list_below}
use Rattle.amd_model.proofs.Counting.Below.{clash}
use Rattle.amd_edges.proofs.Orders.{list_gap}
use Rattle.amd_words.specs.Words.{num, place, word}
use Rattle.amd_workspace.specs.Copying.{is_other}
use Rattle.amd_workspace.specs.Lower.{IsLower, Matrix, SpreadsColumns, earlier_below, earlier_of, is_earlier, own_of, own_start}
use Rattle.amd_workspace.specs.Bands.{banded, own_from, spread_to}
use Rattle.amd_workspace.proofs.LowerLists.{IsNth, length_grows, length_more, nth_below}
use Rattle.amd_workspace.proofs.LowerWords.{early_other, other_early, rows_nth, spreads_more, spreads_same, v_inside}

-- the rows of the column before some bound in the band are written, and the next one of it stands at a place
pub record Part (m : Matrix) (lo hi j place : ℕ) (next : List ℕ) (iw : List ℤ) : Type 0 where
  pub bound : ℕ
  pub low : lo ≤ bound
  pub high : bound ≤ hi
  pub at : place ≡ own_from m.n m.ap m.ai j bound
  pub spreads : SpreadsColumns m.n m.ap m.ai (banded m.n m.ap m.ai lo hi j bound) next iw

pub not_lt : (a b : ℕ) → b ≤ a → ltb a b ≡ false
not_lt a b l = false_from_ne_true (ltb a b) (λ w. let v = ltb-true a b w in omega (arith, v, l))

module _ (n : ℕ) (ap' ai : List ℤ) (lower : IsLower n ap' ai) (lo hi j : ℕ) (band : lo ≤ hi) (rows_in : hi ≤ n) where
  -- ---- what is written of a row

  pub above_band : (r a : ℕ) → a < lo → banded n ap' ai lo hi j r a ≡ earlier_of n ap' ai a
  unfolding banded
  above_band r a l = rw (lt-ltb a lo l) refl

  pub done_in_band : (r a : ℕ) → lo ≤ a → a < r → banded n ap' ai lo hi j r a ≡ earlier_below n ap' ai (j + 1) a
  unfolding banded
  done_in_band r a low l = rw (not_lt a lo low, lt-ltb a r l) refl

  pub left_in_band : (r a : ℕ) → lo ≤ a → r ≤ a → a < hi → banded n ap' ai lo hi j r a ≡ earlier_below n ap' ai j a
  unfolding banded
  left_in_band r a low l high = rw (not_lt a lo low, not_lt a r l, lt-ltb a hi high) refl

  pub below_band : (r a : ℕ) → r ≤ hi → hi ≤ a → banded n ap' ai lo hi j r a ≡ []
  unfolding banded
  below_band r a l high = rw (not_lt a lo (omega (arith, band, high)), not_lt a r (omega (arith, l, high)), not_lt a hi high) refl

  module _ (row : j < hi) where
    j_in : j < n
    j_in = omega (arith, rows_in, row)

    -- a row of the band that is not in the column has the same earlier neighbours before the column and behind it
    passed : (a : ℕ) → a < n → is_other n ap' ai j a ≡ false → earlier_below n ap' ai (j + 1) a ≡ earlier_below n ap' ai j a
    passed a l off = list_no (is_earlier n ap' ai a) j (false_from_ne_true _ (λ w. clash (early_other n ap' ai lower j j_in a w) off))

    -- it has no more than all
    most : (r a : ℕ) → r ≤ hi → a < n → length (banded n ap' ai lo hi j r a) ≤ length (earlier_of n ap' ai a)
    most r a high l = elim (cases_lt a lo) [
      | inl x ↦ (let e = ap length (above_band r a x) in omega (arith, e))
      | inr x ↦ elim (cases_lt a r) [
        | inl y ↦ (let e = ap length (done_in_band r a x y) in let w = length_more n (j + 1) (is_earlier n ap' ai a)
            (let k = j_in in omega (arith, k)) in omega (arith, e, w))
        | inr y ↦ elim (cases_lt a hi) [
          | inl z ↦ (let e = ap length (left_in_band r a x y z) in let w = length_more n j (is_earlier n ap' ai a)
              (let k = j_in in omega (arith, k)) in omega (arith, e, w))
          | inr z ↦ (let e = ap length (below_band r a high z) in omega (arith, e))
        ]
      ]
    ]

    -- rows of the column between one bound and another that has as many before it: none
    none_between : (r c : ℕ) → r ≤ c → length (list_below c (is_other n ap' ai j)) ≤ length (list_below r (is_other n ap' ai j)) →
        (a : ℕ) → r ≤ a → a < c → is_other n ap' ai j a ≡ false
    none_between r c l few a low high = false_from_ne_true _ (λ on.
        let x = length_grows c a (is_other n ap' ai j) high on in let y = length_more a r (is_other n ap' ai j) low in
        omega (arith, x, y, few))

    -- the bound of the rows that were passed may rise where none of the column is between
    risen : (r c : ℕ) → lo ≤ r → r ≤ c → c ≤ hi → ((a : ℕ) → r ≤ a → a < c → is_other n ap' ai j a ≡ false) →
        (a : ℕ) → a < n → banded n ap' ai lo hi j c a ≡ banded n ap' ai lo hi j r a
    risen r c low l high none a a_in = elim (cases_lt a lo) [
      | inl x ↦ above_band c a x ∙ sym (above_band r a x)
      | inr x ↦ elim (cases_lt a r) [
        | inl y ↦ done_in_band c a x (omega (arith, y, l)) ∙ sym (done_in_band r a x y)
        | inr y ↦ elim (cases_lt a c) [
          | inl z ↦ done_in_band c a x z ∙ passed a a_in (none a y z) ∙ sym (left_in_band r a x y (omega (arith, z, high)))
          | inr z ↦ elim (cases_lt a hi) [
            | inl w ↦ left_in_band c a x z w ∙ sym (left_in_band r a x y w)
            | inr w ↦ below_band c a high w ∙ sym (below_band r a (omega (arith, l, high)) w)
          ]
        ]
      ]
    ]

    -- ---- the next row of the column

    module _ (k i : ℕ) (early : ℕ → List ℕ) (next : List ℕ) (iw : List ℤ) (h : SpreadsColumns n ap' ai early next iw)
        (k_in : k < length (own_of n ap' ai j)) (is : word iw (own_start n ap' ai j + length (earlier_of n ap' ai j) + k) ≡ pos i) where
      row_is : i ≡ get_or (own_of n ap' ai j) k 0
      unfolding place
      row_is = sym (ap place is)
          ∙ sym (rows_nth iw (own_start n ap' ai j + length (earlier_of n ap' ai j)) (length (own_of n ap' ai j)) k k_in)
          ∙ ap (λ xs. get_or xs k 0) (h.held.own j j_in)

      pub next_row : IsNth n (is_other n ap' ai j) k i
      next_row = subst (IsNth n (is_other n ap' ai j) k) (sym row_is) (nth_below n (is_other n ap' ai j) k k_in)

    -- ---- one row more

    module _ (r i k : ℕ) (next : List ℕ) (iw : List ℤ) (fits : own_start n ap' ai n ≤ length iw) (low : lo ≤ r) (r_in : r ≤ hi)
        (h : SpreadsColumns n ap' ai (banded n ap' ai lo hi j r) next iw) (so_far : length (list_below r (is_other n ap' ai j)) ≡ k)
        (i_in : i < hi) (nth : IsNth n (is_other n ap' ai j) k i) where
      r_to : r ≤ i
      r_to = elim (cases_lt i r) [
        | inl l ↦ (let x = length_grows r i (is_other n ap' ai j) l nth.passes in let b = nth.before in
            absurd (omega (arith, x, b, so_far)))
        | inr l ↦ omega (arith, l)
      ]

      pub row_after : r ≤ i
      row_after = r_to

      before_is : banded n ap' ai lo hi j r i ≡ earlier_below n ap' ai j i
      before_is = left_in_band r i (let t = r_to in omega (arith, low, t)) r_to i_in

      here : banded n ap' ai lo hi j (i + 1) i ≡ banded n ap' ai lo hi j r i ++ j ∷ []
      here = done_in_band (i + 1) i (let t = r_to in omega (arith, low, t)) (omega arith)
          ∙ list_yes (is_earlier n ap' ai i) j (other_early n ap' ai lower j j_in i nth.passes)
          ∙ ap (λ xs. xs ++ j ∷ []) (sym before_is)

      between : (a : ℕ) → r ≤ a → a < i → is_other n ap' ai j a ≡ false
      between = none_between r i r_to (let b = nth.before in omega (arith, b, so_far))

      there : (a : ℕ) → a < n → a ≢ i → banded n ap' ai lo hi j (i + 1) a ≡ banded n ap' ai lo hi j r a
      there a a_in ne = elim (cases_lt a i) [
        | inl l ↦ elim (cases_lt a lo) [
          | inl x ↦ above_band (i + 1) a x ∙ sym (above_band r a x)
          | inr x ↦ done_in_band (i + 1) a x (omega (arith, l)) ∙ sym (done_in_band i a x l)
              ∙ risen r i low r_to (omega (arith, i_in)) between a a_in
        ]
        | inr l ↦ (let past : i + 1 ≤ a = omega (arith, l, ne) in let t = r_to in elim (cases_lt a hi) [
          | inl w ↦ left_in_band (i + 1) a (omega (arith, low, t, past)) past w
              ∙ sym (left_in_band r a (omega (arith, low, t, past)) (omega (arith, t, past)) w)
          | inr w ↦ below_band (i + 1) a (omega (arith, i_in)) w ∙ sym (below_band r a r_in w)
        ])
      ]

      few : length (banded n ap' ai lo hi j r i) < length (earlier_of n ap' ai i)
      few = let w = length_grows n j (is_earlier n ap' ai i) j_in (other_early n ap' ai lower j j_in i nth.passes) in
          let s = ap length before_is in omega (arith, w, s)

      pub part_inside : num next i < length iw
      part_inside = v_inside n ap' ai lower (omega arith) (banded n ap' ai lo hi j r) (banded n ap' ai lo hi j (i + 1)) next iw i j h
          (omega (arith, i_in, rows_in)) j_in fits few (λ a. most r a r_in) here there

      pub part_step : SpreadsColumns n ap' ai (banded n ap' ai lo hi j (i + 1)) (set next i (num next i + 1)) (set iw (num next i) (pos j))
      part_step = spreads_more n ap' ai lower (omega arith) (banded n ap' ai lo hi j r) (banded n ap' ai lo hi j (i + 1)) next iw i j h
          (omega (arith, i_in, rows_in)) j_in fits few (λ a. most r a r_in) here there

      pub part_count : length (list_below (i + 1) (is_other n ap' ai j)) ≡ k + 1
      part_count = ap length (list_yes (is_other n ap' ai j) i nth.passes) ∙ length-append (list_below i (is_other n ap' ai j)) (i ∷ [])
          ∙ (let b = nth.before in omega (arith, b))

    -- ---- the end of the part of a column

    module _ (r k : ℕ) (low : lo ≤ r) (r_in : r ≤ hi) (so_far : length (list_below r (is_other n ap' ai j)) ≡ k)
        (none : (a : ℕ) → r ≤ a → a < hi → is_other n ap' ai j a ≡ false) where
      pub part_end : (next : List ℕ) (iw : List ℤ) → SpreadsColumns n ap' ai (banded n ap' ai lo hi j r) next iw →
          SpreadsColumns n ap' ai (banded n ap' ai lo hi j hi) next iw
      part_end next iw h = spreads_same n ap' ai lower (banded n ap' ai lo hi j r) (banded n ap' ai lo hi j hi) next iw
          (risen r hi low r_in (omega arith) none) h

      pub part_all : length (list_below hi (is_other n ap' ai j)) ≡ k
      part_all = ap length (list_gap (is_other n ap' ai j) r hi r_in none) ∙ so_far

    -- no row is left: the column is at its end, or its next row is behind the band
    pub none_left : (r k : ℕ) → length (list_below r (is_other n ap' ai j)) ≡ k → length (own_of n ap' ai j) ≤ k →
        (a : ℕ) → r ≤ a → a < hi → is_other n ap' ai j a ≡ false
    none_left r k so_far all a low high = false_from_ne_true _ (λ on.
        let x = length_grows n a (is_other n ap' ai j) (omega (arith, high, rows_in)) on in
        let y = length_more a r (is_other n ap' ai j) low in omega (arith, x, y, so_far, all))

    pub none_before : (r k i : ℕ) → length (list_below r (is_other n ap' ai j)) ≡ k → IsNth n (is_other n ap' ai j) k i → hi ≤ i →
        (a : ℕ) → r ≤ a → a < hi → is_other n ap' ai j a ≡ false
    none_before r k i so_far nth far a low high = false_from_ne_true _ (λ on.
        let x = length_grows i a (is_other n ap' ai j) (omega (arith, high, far)) on in
        let y = length_more a r (is_other n ap' ai j) low in let b = nth.before in omega (arith, x, y, so_far, b))

  -- ---- a whole band

  -- before its first column, with j = 0
  pub band_starts : j ≡ 0 → (a : ℕ) → a < n → banded n ap' ai lo hi j lo a ≡ spread_to n ap' ai lo a
  unfolding spread_to list_below
  band_starts none a l = elim (cases_lt a lo) [
    | inl x ↦ above_band lo a x ∙ sym (rw (lt-ltb a lo x) refl)
    | inr x ↦ elim (cases_lt a hi) [
      | inl y ↦ left_in_band lo a x x y ∙ ap (λ b. earlier_below n ap' ai b a) none ∙ sym (rw (not_lt a lo x) refl)
      | inr y ↦ below_band lo a band y ∙ sym (rw (not_lt a lo x) refl)
    ]
  ]

  -- behind its last column, with j = hi
  pub band_ends : j ≡ hi → (a : ℕ) → a < n → spread_to n ap' ai hi a ≡ banded n ap' ai lo hi j lo a
  unfolding spread_to is_earlier
  band_ends last a l = elim (cases_lt a lo) [
    | inl x ↦ rw (lt-ltb a hi (omega (arith, x, band))) (sym (above_band lo a x))
    | inr x ↦ elim (cases_lt a hi) [
      | inl y ↦ rw (lt-ltb a hi y) (list_gap (is_earlier n ap' ai a) hi n rows_in (λ c low high. false_from_ne_true _ (λ e.
          let v = ltb-true c a (and_parts _ _ e).0 in omega (arith, v, low, y)))
          ∙ ap (λ b. earlier_below n ap' ai b a) (sym last) ∙ sym (left_in_band lo a x x y))
      | inr y ↦ rw (not_lt a hi y) (sym (below_band lo a band y))
    ]
  ]

-- from one column of a band to the next
pub band_next : (n : ℕ) (ap' ai : List ℤ) (lower : IsLower n ap' ai) (lo hi j : ℕ) (band : lo ≤ hi) (rows_in : hi ≤ n) (a : ℕ) → a < n →
    banded n ap' ai lo hi (j + 1) lo a ≡ banded n ap' ai lo hi j hi a
band_next n ap' ai lower lo hi j band rows_in a l = elim (cases_lt a lo) [
  | inl x ↦ above_band n ap' ai lower lo hi (j + 1) band rows_in lo a x ∙ sym (above_band n ap' ai lower lo hi j band rows_in hi a x)
  | inr x ↦ elim (cases_lt a hi) [
    | inl y ↦ left_in_band n ap' ai lower lo hi (j + 1) band rows_in lo a x x y
        ∙ sym (done_in_band n ap' ai lower lo hi j band rows_in hi a x y)
    | inr y ↦ below_band n ap' ai lower lo hi (j + 1) band rows_in lo a band y
        ∙ sym (below_band n ap' ai lower lo hi j band rows_in hi a (omega arith) y)
  ]
]

-- a column behind the band has no row in it
pub none_in_band : (n : ℕ) (ap' ai : List ℤ) → IsLower n ap' ai → (lo hi j : ℕ) → lo ≤ hi → hi ≤ j → j < n →
    own_from n ap' ai j lo ≡ own_from n ap' ai j hi
unfolding is_earlier
none_in_band n ap' ai lower lo hi j band past j_in = ap (λ x. own_start n ap' ai j + length (earlier_of n ap' ai j) + x)
    (sym (ap length (list_gap (is_other n ap' ai j) lo hi band (λ a low high. false_from_ne_true _ (λ e.
    let v = ltb-true j a (and_parts _ _ (other_early n ap' ai lower j j_in a e)).0 in omega (arith, v, high, past))))))
