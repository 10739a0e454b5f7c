-- The columns of a matrix, appended one after another.
use Rattle.std.proofs.Common.{◌≡◌, ◌≢◌, ◌+◌, ◌-◌, ◌<◌, ◌≤◌, ◌++◌, inl, inr, ℕ, ℤ, List, length, arith, refl, sym, ap, ◌∙◌, subst, map, pos}
use Rattle.std.proofs.Common.{get_or, take, drop, length-drop, length-take-le, replicate}
use Rattle.std.specs.Prelude.{slice_range}
use Rattle.std.proofs.lemmas.Bool.{cases_eq, cases_lt}
use Rattle.std.proofs.lemmas.List.{length-append, length-map, length-replicate, get_or_append_left, get_or-append_right, get_or_past}
use Rattle.amd_model.specs.Below.{count_below, list_below}
use Rattle.amd_model.specs.Input.Columns.{IsColumnForm}
use Rattle.amd_model.specs.Input.Pattern.{graph_of}
use Rattle.amd_model.proofs.Counting.Places.{length_below}
use Rattle.amd_types.specs.Naturals.{naturals, is_entry}
use Rattle.amd_edges.specs.Visits.{AreCounts, start_of}
use Rattle.amd_edges.proofs.Forms.{IsSortedForm}
use Rattle.amd_edges.proofs.Listing.{start_later}
use Rattle.amd_edges.proofs.Reading.{IsReading}
use Rattle.amd_words.specs.Words.{num, rows}
use Rattle.amd_words.proofs.RowLists.{rows_at, rows_same}
use Rattle.amd_workspace.specs.Copying.{is_other, HoldRows}
use Rattle.amd_workspace.proofs.Copied.{others_past, same_other}
use Rattle.amd_workspace.proofs.LowerColumns.{own_rest}
use Rattle.amd_workspace.proofs.Layings.{row_word, same_are_rows}
use Rattle.amd_workspace.proofs.LaidRows.{column_rows, rows_behind}
use Rattle.amd_workspace.proofs.SymmetricCounts.{next_start, others_room}

-- ---- one column

-- the rows up to the diagonal of column i end at the place p, or behind it where it holds row i
module _ (n : ℕ) (ap' ai : List ℕ) (form : IsSortedForm n ap' ai) (i p : ℕ) (i_in : i < n) (from : get_or ap' i 0 ≤ p)
    (to : p ≤ get_or ap' (i + 1) 0) (before : (r : ℕ) → get_or ap' i 0 ≤ r → r < p → get_or ai r 0 < i)
    (behind : (r : ℕ) → p ≤ r → r < get_or ap' (i + 1) 0 → i ≤ get_or ai r 0) where
  pub reading_on : p < get_or ap' (i + 1) 0 → get_or ai p 0 ≡ i → IsReading ai (get_or ap' i 0) (get_or ap' (i + 1) 0) n (i + 1) (p + 1)
  reading_on inside is = record {
    from = omega (arith, from);
    to = omega (arith, inside);
    read = λ r x y. elim (cases_lt r p) [
      | inl z ↦ (let w = before r x z in omega (arith, w))
      | inr z ↦ (let same : r ≡ p = omega (arith, y, z) in let w = ap (λ q. get_or ai q 0) same in omega (arith, w, is))
    ];
    left = λ r x y. (let w = form.ascend i p r i_in from (omega (arith, x)) y in omega (arith, w, is));
    low = omega (arith, i_in);
  }

  pub reading_off : (p < get_or ap' (i + 1) 0 → get_or ai p 0 ≢ i) → IsReading ai (get_or ap' i 0) (get_or ap' (i + 1) 0) n (i + 1) p
  reading_off ne = record {
    from = from;
    to = to;
    read = λ r x y. (let w = before r x y in omega (arith, w));
    left = λ r x y. (let inside : p < get_or ap' (i + 1) 0 = omega (arith, x, y) in let w = behind p (omega arith) inside in
        let other = ne inside in elim (cases_eq p r) [
          | inl same ↦ (let v = ap (λ q. get_or ai q 0) same in omega (arith, v, w, other))
          | inr apart ↦ (let v = form.ascend i p r i_in from (omega (arith, x, apart)) y in omega (arith, v, w))
        ]);
    low = omega (arith, i_in);
  }

module _ (n : ℕ) (ap' ai : List ℤ) (form : IsColumnForm (pos n) n ap' ai) (sorted : IsSortedForm n (naturals ap') (naturals ai)) (i p : ℕ)
    (i_in : i < n) (so : IsReading (naturals ai) (get_or (naturals ap') i 0) (get_or (naturals ap') (i + 1) 0) n (i + 1) p) where
  -- the rows before the diagonal, and those behind it
  pub others_parts : list_below i (is_other n ap' ai i) ++ slice_range (naturals ai) p (get_or (naturals ap') (i + 1) 0)
      ≡ list_below n (is_other n ap' ai i)
  others_parts = let to = so.to in let stop = get_or (naturals ap') (i + 1) 0 in
      sym (ap (list_below n) (same_other n ap' ai form i)
      ∙ own_rest n (naturals ap') (naturals ai) sorted i stop i_in refl (stop - p) (i + 1) p (omega (arith, to)) (omega arith) so
      ∙ ap (λ xs. xs ++ take (stop - p) (drop p (naturals ai))) (others_past (is_entry n (naturals ap') (naturals ai)) i
      ∙ sym (ap (list_below i) (same_other n ap' ai form i))))

  pub others_long : length (list_below i (is_other n ap' ai i)) + (get_or (naturals ap') (i + 1) 0 - p) ≡ count_below n (is_other n ap'
      ai i)
  others_long = let stop = get_or (naturals ap') (i + 1) 0 in let within = sorted.within i i_in in
      let size = length-drop p (naturals ai) in
      let slice : length (slice_range (naturals ai) p stop) ≡ stop - p
      = length-take-le (stop - p) (drop p (naturals ai)) (omega (arith, within, size)) in
      let whole = length-append (list_below i (is_other n ap' ai i)) (slice_range (naturals ai) p stop) in
      let all = ap length others_parts in let count = length_below n (is_other n ap' ai i) in omega (arith, slice, whole, all, count)

-- ---- all columns

-- a list without words
pub rows_empty : (n : ℕ) (xs : List ℤ) → 0 < n → length xs ≡ 0 → HoldRows n xs
rows_empty n xs some empty k = row_word n _ 0 (get_or_past xs k (pos 0) (omega (arith, empty))) some

-- words that are rows, behind others
rows_joined : (n : ℕ) (xs ys : List ℤ) → HoldRows n xs → HoldRows n ys → HoldRows n (xs ++ ys)
rows_joined n xs ys first second k = elim (cases_lt k (length xs)) [
  | inl x ↦ rw (get_or_append_left xs ys (pos 0) k x) (first k)
  | inr x ↦ rw (get_or-append_right xs ys (length xs) k (pos 0) refl x) (second (k - length xs))
]

-- the words that were copied, and behind them one row in more words
module _ (n count row : ℕ) (xs ys : List ℤ) (row_in : row < n) (words : HoldRows n xs)
    (filled : ys ≡ xs ++ replicate count (pos row)) where
  pub filled_words : HoldRows n ys
  filled_words = subst (HoldRows n) (sym filled) (rows_joined n xs (replicate count (pos row)) words
      (same_are_rows n count row row_in))

  pub filled_long : length ys ≡ length xs + count
  filled_long = let a = ap length filled in let b = length-append xs (replicate count (pos row)) in
      let c = length-replicate count (pos row) in omega (arith, a, b, c)

  pub filled_same : (from long : ℕ) → from + long ≤ length xs → rows ys from long ≡ rows xs from long
  filled_same from long inside = rows_same xs ys from from long (λ k l. ap (λ zs. get_or zs (from + k) (pos 0)) filled
      ∙ get_or_append_left xs (replicate count (pos row)) (pos 0) (from + k) (omega (arith, l, inside)))

-- the lists of the first columns: each has as many rows as the degree says, and stands where the list of its row starts
pub record AreCopied (n : ℕ) (ap' ai : List ℤ) (degrees : List ℕ) (iw : List ℤ) (i free : ℕ) : Type 0 where
  pub place : free ≡ start_of (graph_of n ap' ai) i
  pub long : length iw ≡ free
  pub counts : (j : ℕ) → j < i → num degrees j ≡ count_below n (is_other n ap' ai j)
  pub lists : (j : ℕ) → j < i →
      rows iw (start_of (graph_of n ap' ai) j) (num degrees j) ≡ list_below n (is_other n ap' ai j)

module _ (n : ℕ) (ap' ai : List ℤ) (degrees : List ℕ)
    (are : AreCounts (graph_of n ap' ai) ((graph_of n ap' ai).edge) degrees) (i free : ℕ) (l : i < n)
    (old new : List ℤ) (pushed : new ≡ old ++ map pos (list_below n (is_other n ap' ai i)))
    (h : AreCopied n ap' ai degrees old i free) where
  neighbours : (j : ℕ) → j < n → num degrees j ≡ count_below n ((graph_of n ap' ai).edge j)
  unfolding graph_of
  neighbours j m = are.each j m

  column : List ℤ
  column = map pos (list_below n (is_other n ap' ai i))

  pub long_is : length new ≡ free + count_below n (is_other n ap' ai i)
  unfolding column
  long_is = let a = ap length pushed in let b = length-append old column in let d = length-map (list_below n (is_other n ap' ai i)) pos in
      let e = length_below n (is_other n ap' ai i) in let f = h.long in omega (arith, a, b, d, e, f)

  -- there are no more words than the lists of the rows so far have, nor than all lists
  pub long_most : length new ≤ start_of (graph_of n ap' ai) n
  long_most = let a = long_is in let b = others_room n ap' ai i free l h.place in omega (arith, a, b)

  pub words_more : HoldRows n old → HoldRows n new
  unfolding column
  words_more names = subst (HoldRows n) (sym pushed)
      (rows_joined n old column names (column_rows n (is_other n ap' ai i) (omega (arith, l))))

  -- the lists before are as they were
  kept : (j : ℕ) → j < i → rows new (start_of (graph_of n ap' ai) j) (num degrees j) ≡ rows old (start_of (graph_of n ap' ai) j) (num
      degrees j)
  unfolding graph_of column
  kept j m = rows_same old new (start_of (graph_of n ap' ai) j) (start_of (graph_of n ap' ai) j) (num degrees j) (λ k x.
      ap (λ xs. get_or xs (start_of (graph_of n ap' ai) j + k) (pos 0)) pushed ∙ get_or_append_left old column (pos 0)
      (start_of (graph_of n ap' ai) j + k)
      (let later = start_later (graph_of n ap' ai) j i m in let own = neighbours j (omega (arith, m, l)) in
      let start = h.place in let size = h.long in omega (arith, later, own, start, x, size)))

  -- one column more, whose list is as long as the degree says
  pub columns_more : length new - free ≡ num degrees i → AreCopied n ap' ai degrees new (i + 1) (length new)
  columns_more is = record {
    place = (let e = long_is in let own = neighbours i l in let next = next_start n ap' ai i in let start = h.place in
        omega (arith, e, own, next, is, start));
    long = refl;
    counts = λ j m. elim (cases_lt j i) [ inl x ↦ h.counts j x | inr x ↦ subst Q (omega (arith, m, x)) here ];
    lists = λ j m. elim (cases_lt j i) [
      | inl x ↦ kept j x ∙ h.lists j x
      | inr x ↦ subst (λ k. rows new (start_of (graph_of n ap' ai) k) (num degrees k) ≡ list_below n (is_other n ap' ai k))
          (omega (arith, m, x)) (rows_at new (sym h.place ∙ sym h.long) long ∙ ap (λ xs. rows xs (length old)
          (length (list_below n (is_other n ap' ai i)))) pushed ∙ rows_behind old (list_below n (is_other n ap' ai i)))
    ];
  }
    where
      Q : ℕ → Type 0
      Q k = num degrees k ≡ count_below n (is_other n ap' ai k)

      here : num degrees i ≡ count_below n (is_other n ap' ai i)
      here = let e = long_is in omega (arith, e, is)

      long : num degrees i ≡ length (list_below n (is_other n ap' ai i))
      long = here ∙ sym (length_below n (is_other n ap' ai i))
