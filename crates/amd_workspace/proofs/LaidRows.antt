-- The lists of a pattern without an entry above the diagonal, laid row after row: each with the room for the earlier
-- neighbours of its row, and its own column behind it.
use Rattle.std.proofs.Common.{◌≡◌, ◌<◌, ◌≤◌, ◌+◌, ◌-◌, inl, inr, ℕ, ℤ, zero, suc, Bool, true, List, [], ◌∷◌, ◌++◌, pos}
use Rattle.std.proofs.Common.{arith, refl, ap, sym, ◌∙◌, subst, length, get_or, map, take}
use Rattle.std.proofs.lemmas.Bool.{and_parts, cases_eq, cases_lt, false_from_ne_true}
use Rattle.std.proofs.lemmas.List.{length-append, get_or_append_left}
use Rattle.std.proofs.lemmas.List.{take_more, take_all, get_or-map, get_or_past, get_or-replicate, length-replicate}
use Rattle.std.proofs.lemmas.List.{get_or-append-add, get_or-append_right, length-map}
use Rattle.std.specs.Prelude.{replicate}
use Rattle.amd_round_laws.proofs.Lists.Rising.{list_no}
use Rattle.amd_model.specs.Below.{list_below, sum_below}
use Rattle.amd_model.specs.Input.Pattern.{is_pair}
use Rattle.amd_edges.specs.Visits.{start_of}
use Rattle.amd_words.specs.Words.{num, place, word, rows}
use Rattle.amd_words.proofs.RowLists.{rows_none, rows_same}
use Rattle.amd_workspace.specs.Copying.{is_other, HoldRows}
use Rattle.amd_workspace.specs.Lower.{IsLower, is_earlier, earlier_of, own_of, own_start}
use Rattle.amd_workspace.specs.Lower.{HoldsOwn, LaysRows, SpreadsColumns, SpreadsFirst, earlier_below}
use Rattle.amd_workspace.proofs.Layings.{row_word}
use Rattle.amd_workspace.proofs.LowerLists.{nth_below, length_more}
use Rattle.amd_workspace.proofs.LowerWords.{later_list, next_list}

-- words that are rows
replicate_rows : (n j count : ℕ) → j < n → HoldRows n (replicate count (pos j))
replicate_rows n j count j_in k = elim (cases_lt k count) [
  | inl l ↦ row_word n _ j (get_or-replicate count k (pos j) (pos 0) l) j_in
  | inr l ↦ row_word n _ 0 (get_or_past (replicate count (pos j)) k (pos 0)
      (let size = length-replicate count (pos j) in omega (arith, size, l))) (omega (arith, j_in))
]

pub column_rows : (n : ℕ) (p : ℕ → Bool) → 0 < n → HoldRows n (map pos (list_below n p))
column_rows n p some k = elim (cases_lt k (length (list_below n p))) [
  | inl l ↦ row_word n _ (get_or (list_below n p) k 0) (get_or-map pos (list_below n p) k 0 (pos 0) l) (nth_below n p k l).small
  | inr l ↦ row_word n _ 0 (get_or_past (map pos (list_below n p)) k (pos 0)
      (let size = length-map (list_below n p) pos in omega (arith, size, l))) some
]

-- rows that stand behind other words
rows_behind_part : (xs : List ℤ) (ys : List ℕ) (count : ℕ) → count ≤ length ys → rows (xs ++ map pos ys) (length xs) count ≡ take count ys
unfolding rows place
rows_behind_part xs ys zero l = refl
rows_behind_part xs ys (suc c) l =
    let e : suc c ≡ c + 1 = omega arith in
    let here : place (word (xs ++ map pos ys) (length xs + c)) ≡ get_or ys c 0 = ap place (get_or-append-add xs (map pos ys) c (pos 0)
    ∙ get_or-map pos ys c 0 (pos 0) (omega (arith, l))) in
    ap (λ zs. zs ++ place (word (xs ++ map pos ys) (length xs + c)) ∷ []) (rows_behind_part xs ys c (omega (arith, l)))
    ∙ ap (λ z. take c ys ++ z ∷ []) here ∙ sym (take_more ys c 0 (omega (arith, l))) ∙ ap (λ k. take k ys) (sym e)

pub rows_behind : (xs : List ℤ) (ys : List ℕ) → rows (xs ++ map pos ys) (length xs) (length ys) ≡ ys
rows_behind xs ys = rows_behind_part xs ys (length ys) (omega arith) ∙ take_all (length ys) ys (omega arith)

module _ (n : ℕ) (ap' ai : List ℤ) (lower : IsLower n ap' ai) where
  -- words behind the first ones
  held_append : (m : ℕ) (xs ys : List ℤ) → m ≤ n → own_start n ap' ai m ≤ length xs → HoldRows n ys → HoldsOwn n ap' ai m xs →
      HoldsOwn n ap' ai m (xs ++ ys)
  held_append m xs ys few inside names h = record {
    words = λ k. elim (cases_lt k (length xs)) [
      | inl l ↦ rw (get_or_append_left xs ys (pos 0) k l) (h.words k)
      | inr l ↦ rw (get_or-append_right xs ys (length xs) k (pos 0) refl l) (names (k - length xs))
    ];
    own = λ i l. rows_same xs (xs ++ ys) _ _ (length (own_of n ap' ai i)) (λ k x. get_or_append_left xs ys (pos 0) _
        (let w = later_list n ap' ai lower i m l few in omega (arith, w, x, inside))) ∙ h.own i l;
  }

  held_filled : (m : ℕ) (xs : List ℤ) (j count : ℕ) → m ≤ n → own_start n ap' ai m ≤ length xs → j < n → HoldsOwn n ap' ai m xs →
      HoldsOwn n ap' ai m (xs ++ replicate count (pos j))
  held_filled m xs j count few inside j_in h = held_append m xs (replicate count (pos j)) few inside (replicate_rows n j count j_in) h

  held_column : (j degree : ℕ) (xs : List ℤ) → j < n → degree ≡ length (earlier_of n ap' ai j) + length (own_of n ap' ai j) →
      length xs ≡ own_start n ap' ai j → HoldsOwn n ap' ai j xs →
      HoldsOwn n ap' ai (j + 1) ((xs ++ replicate (degree - length (own_of n ap' ai j)) (pos j)) ++ map pos (own_of n ap' ai j))
  held_column j degree xs j_in parts long h =
      let room = replicate (degree - length (own_of n ap' ai j)) (pos j) in
      let size = length-append xs room in let filled = length-replicate (degree - length (own_of n ap' ai j)) (pos j) in
      let a = held_filled j xs j (degree - length (own_of n ap' ai j)) (omega (arith, j_in)) (omega (arith, long)) j_in h in
      let b = held_append j (xs ++ room) (map pos (own_of n ap' ai j)) (omega (arith, j_in)) (omega (arith, long, size))
      (column_rows n (is_other n ap' ai j) (omega (arith, j_in))) a in
      let at : own_start n ap' ai j + length (earlier_of n ap' ai j) ≡ length (xs ++ room) = omega (arith, size, filled, long, parts) in
      record {
        words = b.words;
        own = λ i l. elim (cases_eq i j) [
          | inr ne ↦ b.own i (omega (arith, l, ne))
          | inl e ↦ subst (λ x. rows ((xs ++ room) ++ map pos (own_of n ap' ai j))
              (own_start n ap' ai x + length (earlier_of n ap' ai x)) (length (own_of n ap' ai x)) ≡ own_of n ap' ai x) (sym e)
              (ap (λ f. rows ((xs ++ room) ++ map pos (own_of n ap' ai j)) f (length (own_of n ap' ai j))) at
              ∙ rows_behind (xs ++ room) (own_of n ap' ai j))
        ];
      }

  -- what is spread stays where words come behind it
  spreads_append : (m : ℕ) (early : ℕ → List ℕ) (next : List ℕ) (xs ys : List ℤ) → m ≤ n → own_start n ap' ai m ≤ length xs →
      HoldRows n ys → ((a : ℕ) → m ≤ a → early a ≡ []) →
      ((a : ℕ) → a < n → length (early a) ≤ length (earlier_of n ap' ai a)) → SpreadsFirst n ap' ai m early next xs →
      SpreadsFirst n ap' ai m early next (xs ++ ys)
  spreads_append m early next xs ys few inside names none most h = record {
    held = held_append m xs ys few inside names h.held;
    long = h.long;
    ends = h.ends;
    first = λ a l. elim (cases_lt a m) [
      | inl x ↦ rows_same xs (xs ++ ys) _ _ (length (early a)) (λ k y. get_or_append_left xs ys (pos 0) _
          (let w = later_list n ap' ai lower a m x few in let z = most a l in omega (arith, w, y, z, inside))) ∙ h.first a l
      | inr x ↦ subst (λ zs. rows (xs ++ ys) (own_start n ap' ai a) (length zs) ≡ zs) (sym (none a x))
          (rows_none (xs ++ ys) (own_start n ap' ai a))
    ];
  }

  -- the list of one row more
  pub lays_row : (j degree : ℕ) (early : ℕ → List ℕ) (next : List ℕ) (xs : List ℤ) → j < n →
      degree ≡ length (earlier_of n ap' ai j) + length (own_of n ap' ai j) → LaysRows n ap' ai j early next xs →
      LaysRows n ap' ai (j + 1) early next
      ((xs ++ replicate (degree - length (own_of n ap' ai j)) (pos j)) ++ map pos (own_of n ap' ai j))
  lays_row j degree early next xs j_in parts h =
      let room = replicate (degree - length (own_of n ap' ai j)) (pos j) in let own = map pos (own_of n ap' ai j) in
      let long = h.long in let first = length-append xs room in let all = length-append (xs ++ room) own in
      let filled = length-replicate (degree - length (own_of n ap' ai j)) (pos j) in let column = length-map (own_of n ap' ai j) pos in
      let next_start = next_list n ap' ai lower j j_in in
      let a = spreads_append j early next xs room h.few (omega (arith, long)) (replicate_rows n j _ j_in) h.none h.most h.spreads in
      let b = spreads_append j early next (xs ++ room) own h.few (omega (arith, long, first))
      (column_rows n (is_other n ap' ai j) (omega (arith, j_in))) h.none h.most a in
      record {
        few = omega (arith, j_in);
        long = omega (arith, long, first, all, filled, column, next_start, parts);
        none = λ a l. h.none a (omega (arith, l));
        most = h.most;
        spreads = record {
          held = held_column j degree xs j_in parts long h.spreads.held;
          long = b.long;
          ends = b.ends;
          first = b.first;
        };
      }

  -- the rows of one column are spread
  pub lays_column : (m j : ℕ) (next next' : List ℕ) (iw iw' : List ℤ) → j < n →
      ((a : ℕ) → is_pair n ap' ai a j ≡ true → a < m) → length iw' ≡ length iw →
      LaysRows n ap' ai m (earlier_below n ap' ai j) next iw → SpreadsFirst n ap' ai m (earlier_below n ap' ai (j + 1)) next' iw' →
      LaysRows n ap' ai m (earlier_below n ap' ai (j + 1)) next' iw'
  unfolding is_earlier
  lays_column m j next next' iw iw' j_in within same h so = record {
    few = h.few;
    long = same ∙ h.long;
    none = λ a l. list_no (is_earlier n ap' ai a) j (false_from_ne_true _ (λ e.
        let v = within a (and_parts _ _ e).1 in omega (arith, v, l))) ∙ h.none a l;
    most = λ a l. length_more n (j + 1) (is_earlier n ap' ai a) (omega (arith, j_in));
    spreads = so;
  }

  -- the words behind the last list
  pub lays_end : (early : ℕ → List ℕ) (next : List ℕ) (xs : List ℤ) (j count : ℕ) → j < n → LaysRows n ap' ai n early next xs →
      SpreadsColumns n ap' ai early next (xs ++ replicate count (pos j))
  lays_end early next xs j count j_in h = let long = h.long in
      spreads_append n early next xs (replicate count (pos j)) h.few (omega (arith, long)) (replicate_rows n j count j_in) h.none h.most
      h.spreads

  held_none : (xs : List ℤ) → 0 < n → length xs ≡ 0 → HoldsOwn n ap' ai 0 xs
  held_none xs some none = record {
    words = λ k. row_word n _ 0 (get_or_past xs k (pos 0) (omega (arith, none))) some;
    own = λ i l. absurd (omega (arith, l));
  }

  -- before the first row
  pub lays_none : (next : List ℕ) (xs : List ℤ) → 0 < n → length xs ≡ 0 → length next ≡ n →
      ((i : ℕ) → i < n → num next i ≡ own_start n ap' ai i) → LaysRows n ap' ai 0 (earlier_below n ap' ai 0) next xs
  unfolding list_below start_of sum_below
  lays_none next xs some none long starts = record {
    few = omega arith;
    long = none;
    none = λ a l. refl;
    most = λ a l. omega arith;
    spreads = record {
      held = held_none xs some none;
      long = long;
      ends = λ i l. (let e = starts i l in omega (arith, e));
      first = λ i l. rows_none xs (own_start n ap' ai i);
    };
  }
