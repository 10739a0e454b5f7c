-- A column of a pattern without an entry above the diagonal: its rows below the diagonal are a stretch of the row indices.
use Rattle.std.proofs.Common.{◌≡◌, ◌≢◌, ◌<◌, ◌≤◌, ◌+◌, ◌-◌, ◌^◌, inl, inr, ℕ, ℤ, zero, suc, true, List, [], ◌∷◌, ◌++◌, pos}
use Rattle.std.proofs.Common.{arith, refl, ap, sym, ◌∙◌, length, get_or, take, drop, append_assoc}
use Rattle.std.proofs.Common.{le_refl, map, length-drop, length-take-le}
use Rattle.std.specs.Prelude.{slice_range}
use Rattle.std.proofs.lemmas.Bool.{and_parts, cases_eq, eq-eqb}
use Rattle.std.proofs.lemmas.Bool.{false_from_ne_true, not-true}
use Rattle.std.proofs.lemmas.List.{append-nil, at_drop_more}
use Rattle.std.proofs.lemmas.List.{get_or-drop, take_more}
use Rattle.amd_model.specs.Below.{list_below}
use Rattle.std.specs.Int.{FitsUnsignedBits}
use Rattle.amd_model.specs.Input.Columns.{at, IsColumnForm, IsSorted}
use Rattle.amd_model.specs.Input.Pattern.{is_pair}
use Rattle.amd_model.proofs.Counting.Below.{clash}
use Rattle.amd_types.specs.Naturals.{naturals, is_entry}
use Rattle.amd_edges.proofs.Forms.{IsSortedForm, row_read, same_pair, sorted_form}
use Rattle.amd_edges.proofs.Orders.{list_gap}
use Rattle.amd_edges.proofs.Places.{entry_from, entry_gives}
use Rattle.amd_edges.proofs.Reading.{IsReading, reading_next}
use Rattle.amd_workspace.specs.Lower.{IsLower, own_of}
use Rattle.amd_workspace.proofs.Copied.{others_more, others_end, row_small, same_other}
use Rattle.amd_workspace.proofs.Layings.{words_next}
use Rattle.amd_workspace.proofs.SymmetricLists.{own}

module _ (n : ℕ) (ap' ai : List ℕ) (form : IsSortedForm n ap' ai) (i stop : ℕ) (i_in : i < n) (stop_is : stop ≡ get_or ap' (i + 1) 0) where
  pub own_rest : (d m p : ℕ) → stop ≡ p + d → i < m → IsReading ai (get_or ap' i 0) stop n m p →
      list_below n (own (is_entry n ap' ai) i) ≡ list_below m (own (is_entry n ap' ai) i) ++ take d (drop p ai)
  own_rest zero m p e above so = others_end n ap' ai form i stop m p i_in stop_is so (omega (arith, e)) ∙ sym (append-nil _)
  own_rest (suc d) m p e above so =
      let inside : p < stop = omega (arith, e) in
      let row = get_or ai p 0 in let least : m ≤ row = so.left p (omega arith) inside in
      let small = row_small n ap' ai form i stop m p i_in stop_is so row refl inside in
      let next = reading_next n ap' ai form i (get_or ap' i 0) stop n m p row i_in (le_refl (get_or ap' i 0)) stop_is so refl inside small
      in
      let more = others_more n ap' ai form i stop m p i_in stop_is so row refl inside (λ w. omega (arith, w, least, above)) in
      let within = form.within i i_in in
      own_rest d (row + 1) (p + 1) (omega (arith, e)) (omega (arith, least, above)) next
      ∙ ap (λ xs. xs ++ take d (drop (p + 1) ai)) more
      ∙ append_assoc (list_below m (own (is_entry n ap' ai) i)) (row ∷ []) (take d (drop (p + 1) ai))
      ∙ ap (λ ys. list_below m (own (is_entry n ap' ai) i) ++ ys)
      (sym (at_drop_more (take (suc d)) ai p 0 (omega (arith, inside, within, stop_is))))

  module _ (lower : (a b : ℕ) → is_entry n ap' ai a b ≡ true → b ≤ a) where
    own_none : list_below (i + 1) (own (is_entry n ap' ai) i) ≡ []
    unfolding list_below
    own_none = list_gap (own (is_entry n ap' ai) i) 0 (i + 1) (omega arith) (λ x a l. false_from_ne_true _ (λ e.
        let p = and_parts _ _ e in let v = lower x i p.1 in clash {P = ⊥} (eq-eqb x i (omega (arith, v, l))) (not-true _ p.0)))

    pub own_from : (p : ℕ) → IsReading ai (get_or ap' i 0) stop n (i + 1) p →
        list_below n (own (is_entry n ap' ai) i) ≡ take (stop - p) (drop p ai)
    own_from p so = let to = so.to in own_rest (stop - p) (i + 1) p (omega (arith, to)) (omega arith) so
        ∙ ap (λ xs. xs ++ take (stop - p) (drop p ai)) own_none

    -- the first row is below the diagonal, or on it, or there is none
    module _ (first : ℕ) (first_is : first ≡ get_or ap' i 0) where
      pub reading_none : first ≡ stop → IsReading ai (get_or ap' i 0) stop n (i + 1) first
      reading_none e = record {
        from = omega (arith, first_is);
        to = omega (arith, e);
        read = λ r x y. absurd (omega (arith, x, y, first_is));
        left = λ r x y. absurd (omega (arith, x, y, e));
        low = omega (arith, i_in);
      }

      module _ (inside : first < stop) where
        later : (r : ℕ) → first < r → r < stop → get_or ai first 0 < get_or ai r 0
        later r x y = form.ascend i first r i_in (omega (arith, first_is)) x (omega (arith, y, stop_is))

        pub reading_on : get_or ai first 0 ≡ i → IsReading ai (get_or ap' i 0) stop n (i + 1) (first + 1)
        reading_on e = record {
          from = omega (arith, first_is);
          to = omega (arith, inside);
          read = λ r x y. (let w : r ≡ first = omega (arith, x, y, first_is) in let v = ap (λ z. get_or ai z 0) w in omega (arith, v, e));
          left = λ r x y. (let w = later r (omega (arith, x)) y in omega (arith, w, e));
          low = omega (arith, i_in);
        }

        pub reading_below : get_or ai first 0 ≢ i → IsReading ai (get_or ap' i 0) stop n (i + 1) first
        reading_below ne = record {
          from = omega (arith, first_is);
          to = omega (arith, inside);
          read = λ r x y. absurd (omega (arith, x, y, first_is));
          left = λ r x y. (let low = lower (get_or ai first 0) i (entry_from ap' ai n (get_or ai first 0) i first i_in
              (omega (arith, first_is)) (omega (arith, inside, stop_is)) refl) in elim (cases_eq first r) [
                | inl e ↦ (let v = ap (λ z. get_or ai z 0) e in omega (arith, v, low, ne))
                | inr other ↦ (let w = later r (omega (arith, x, other)) y in omega (arith, w, low))
              ]);
          low = omega (arith, i_in);
        }

-- the rows of a column are low where its first one is
module _ (n : ℕ) (ap' ai : List ℤ) (form : IsColumnForm (pos n) n ap' ai) (j : ℕ) (j_in : j < n) where
  pub no_entry : get_or (naturals ap') j 0 ≡ get_or (naturals ap') (j + 1) 0 → (i : ℕ) → is_pair n ap' ai i j ≡ true → ⊥
  no_entry same i e = let r = entry_gives (naturals ap') (naturals ai) n i j (sym (same_pair n ap' ai form i j) ∙ e) in
      let a = r.2 in let b = r.3 in omega (arith, a, b, same)

  pub none_low : get_or (naturals ap') j 0 ≡ get_or (naturals ap') (j + 1) 0 → (i : ℕ) → is_pair n ap' ai i j ≡ true → j ≤ i
  none_low same i e = absurd (no_entry same i e)

  module _ (sorted : IsSorted n ap' ai) where
    rise : IsSortedForm n (naturals ap') (naturals ai)
    rise = sorted_form n ap' ai form sorted

    -- the first place that is not the end is before it
    pub first_before : (first stop : ℕ) → first ≡ get_or (naturals ap') j 0 → stop ≡ get_or (naturals ap') (j + 1) 0 → first ≢ stop →
        first < stop
    first_before first stop a b ne = let w = rise.rising j j_in in omega (arith, a, b, ne, w)

    pub all_low : (first stop : ℕ) → first ≡ get_or (naturals ap') j 0 → stop ≡ get_or (naturals ap') (j + 1) 0 → first < stop →
        j ≤ get_or (naturals ai) first 0 → (i : ℕ) → is_pair n ap' ai i j ≡ true → j ≤ i
    all_low first stop a b inside low i e =
        let r = entry_gives (naturals ap') (naturals ai) n i j (sym (same_pair n ap' ai form i j) ∙ e) in
        let x = r.2 in let y = r.3 in let z = r.4 in elim (cases_eq first r.0) [
          | inl same ↦ (let w = ap (λ q. get_or (naturals ai) q 0) same in omega (arith, w, z, low))
          | inr ne ↦ (let w = rise.ascend j first r.0 j_in (omega (arith, a)) (omega (arith, x, a, ne)) y in omega (arith, w, z, low))
        ]

    pub low_first : (first stop : ℕ) → first ≡ get_or (naturals ap') j 0 → stop ≡ get_or (naturals ap') (j + 1) 0 → first < stop →
        ((i : ℕ) → is_pair n ap' ai i j ≡ true → j ≤ i) → j ≤ get_or (naturals ai) first 0
    low_first first stop a b inside h = h (get_or (naturals ai) first 0) (same_pair n ap' ai form (get_or (naturals ai) first 0) j
        ∙ entry_from (naturals ap') (naturals ai) n (get_or (naturals ai) first 0) j first j_in (omega (arith, a))
        (omega (arith, inside, b)) refl)

    -- no row is behind the last one
    module _ (first stop : ℕ) (first_is : first ≡ get_or (naturals ap') j 0) (stop_is : stop ≡ get_or (naturals ap') (j + 1) 0)
        (inside : first < stop) where
      pub all_until : (i : ℕ) → is_pair n ap' ai i j ≡ true → i ≤ get_or (naturals ai) (stop - 1) 0
      all_until i e =
          let r = entry_gives (naturals ap') (naturals ai) n i j (sym (same_pair n ap' ai form i j) ∙ e) in
          let x = r.2 in let y = r.3 in let z = r.4 in elim (cases_eq r.0 (stop - 1)) [
            | inl same ↦ (let w = ap (λ q. get_or (naturals ai) q 0) same in omega (arith, w, z))
            | inr ne ↦ (let w = rise.ascend j r.0 (stop - 1) j_in x (omega (arith, y, ne, stop_is)) (omega (arith, inside, stop_is)) in
                omega (arith, w, z))
          ]

      pub last_in : get_or (naturals ai) (stop - 1) 0 < n
      last_in = rise.rows j (stop - 1) j_in (omega (arith, inside, first_is)) (omega (arith, inside, stop_is))

      pub last_low : IsLower n ap' ai → j ≤ get_or (naturals ai) (stop - 1) 0
      last_low lower = lower (get_or (naturals ai) (stop - 1) 0) j (same_pair n ap' ai form (get_or (naturals ai) (stop - 1) 0) j
          ∙ entry_from (naturals ap') (naturals ai) n (get_or (naturals ai) (stop - 1) 0) j (stop - 1) j_in
          (omega (arith, inside, first_is)) (omega (arith, inside, stop_is)) refl)

    module _ (lower : IsLower n ap' ai) where
      low_entry : (a b : ℕ) → is_entry n (naturals ap') (naturals ai) a b ≡ true → b ≤ a
      low_entry a b e = lower a b (same_pair n ap' ai form a b ∙ e)

      -- the own column is the stretch behind the diagonal
      pub own_slice : (p : ℕ) → IsReading (naturals ai) (get_or (naturals ap') j 0) (get_or (naturals ap') (j + 1) 0) n (j + 1) p →
          own_of n ap' ai j ≡ slice_range (naturals ai) p (get_or (naturals ap') (j + 1) 0)
      own_slice p so = ap (list_below n) (same_other n ap' ai form j)
          ∙ own_from n (naturals ap') (naturals ai) rise j (get_or (naturals ap') (j + 1) 0) j_in refl low_entry p so

      module _ (first stop : ℕ) (first_is : first ≡ get_or (naturals ap') j 0) (stop_is : stop ≡ get_or (naturals ap') (j + 1) 0) where
        pub slice_none : first ≡ stop → own_of n ap' ai j ≡ slice_range (naturals ai) first (get_or (naturals ap') (j + 1) 0)
        slice_none e = own_slice first (reading_none n (naturals ap') (naturals ai) rise j (get_or (naturals ap') (j + 1) 0) j_in refl
            low_entry
            first first_is (e ∙ stop_is))

        module _ (ne : first ≢ stop) where
          inside : first < get_or (naturals ap') (j + 1) 0
          inside = let a = first_before first stop first_is stop_is ne in omega (arith, a, stop_is)

          pub slice_on : get_or (naturals ai) first 0 ≡ j →
              own_of n ap' ai j ≡ slice_range (naturals ai) (first + 1) (get_or (naturals ap') (j + 1) 0)
          slice_on e = own_slice (first + 1) (reading_on n (naturals ap') (naturals ai) rise j (get_or (naturals ap') (j + 1) 0) j_in refl
              low_entry first first_is inside e)

          pub slice_below : get_or (naturals ai) first 0 ≢ j →
              own_of n ap' ai j ≡ slice_range (naturals ai) first (get_or (naturals ap') (j + 1) 0)
          slice_below e = own_slice first (reading_below n (naturals ap') (naturals ai) rise j (get_or (naturals ap') (j + 1) 0) j_in refl
              low_entry first first_is inside e)

      -- its length
      pub slice_long : (p : ℕ) → own_of n ap' ai j ≡ slice_range (naturals ai) p (get_or (naturals ap') (j + 1) 0) →
          length (own_of n ap' ai j) ≡ get_or (naturals ap') (j + 1) 0 - p
      slice_long p e = let within = rise.within j j_in in let size = length-drop p (naturals ai) in
          ap length e ∙ length-take-le (get_or (naturals ap') (j + 1) 0 - p) (drop p (naturals ai)) (omega (arith, within, size))

module _ (n : ℕ) (ap' ai : List ℕ) (form : IsSortedForm n ap' ai) (j first stop p row : ℕ) (j_in : j < n) (from : get_or ap' j 0 ≤ first)
    (low : first ≤ p) (inside : p < stop) (stop_is : stop ≡ get_or ap' (j + 1) 0) (is : row ≡ get_or ai p 0) where
  pub column_row : row < n
  column_row = let w = form.rows j p j_in (omega (arith, from, low)) (omega (arith, inside, stop_is)) in omega (arith, w, is)

  -- one row more
  pub stretch_push : map pos (take (p - first) (drop first ai)) ++ pos row ∷ [] ≡ map pos (take (p + 1 - first) (drop first ai))
  stretch_push =
      let d : p + 1 - first ≡ p - first + 1 = omega (arith, low) in let at : first + (p - first) ≡ p = omega (arith, low) in
      let within = form.within j j_in in let size = length-drop first ai in
      let long : p - first < length (drop first ai) = omega (arith, low, inside, stop_is, within, size) in
      let last : get_or (drop first ai) (p - first) 0 ≡ row = get_or-drop first ai (p - first) 0 ∙ ap (λ k. get_or ai k 0) at ∙ sym is in
      words_next (map pos (take (p - first) (drop first ai))) (take (p - first) (drop first ai)) row refl
      ∙ ap (map pos) (ap (λ x. take (p - first) (drop first ai) ++ x ∷ []) (sym last) ∙ sym (take_more (drop first ai) (p - first) 0 long)
      ∙ ap (λ k. take k (drop first ai)) (sym d))

-- the first row of a column that has one can be read
pub first_read : {A : Type 0} (value : A → ℤ) (pointers rows : List A) (n : ℕ) →
    IsColumnForm (pos n) n (map value pointers) (map value rows) → IsSorted n (map value pointers) (map value rows) → (j first stop : ℕ) →
    j < n → first ≡ get_or (naturals (map value pointers)) j 0 → stop ≡ get_or (naturals (map value pointers)) (j + 1) 0 → first ≢ stop →
    n < 2 ^ 64 → (first < length rows) × FitsUnsignedBits 64 (at (map value rows) first)
first_read value pointers rows n form sorted j first stop h a b ne small = row_read value pointers rows n form j first stop h b
    (first_before n (map value pointers) (map value rows) form j h sorted first stop a b ne) small
