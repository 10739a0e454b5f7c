-- The words of the lists of a pattern without an entry above the diagonal.
use Rattle.std.proofs.Common.{◌≡◌, ◌≢◌, ◌<◌, ◌≤◌, ◌+◌, inl, inr, ℕ, ℤ, zero, suc, Bool, true, false, List, [], ◌∷◌, ◌++◌, pos}
use Rattle.std.proofs.Common.{arith, refl, ap, sym, ◌∙◌, subst, cond, ltb, ◌&&◌, length, get_or, set}
use Rattle.std.proofs.Common.{get_or-set_same, get_or-set_other, negsuc, unsigned_abs}
use Rattle.std.proofs.lemmas.Bool.{and_parts, and_from, cases_Bool, cases_eq, cases_lt, lt-ltb, ltb-true, eq-eqb, ne_eqb}
use Rattle.std.proofs.lemmas.Bool.{false_from_ne_true, not-true, not_from_false, false≢true}
use Rattle.std.proofs.lemmas.List.{append-nil, length-append, length-set, get_or_append_left, get_or_push}
use Rattle.std.specs.Cmp.{both_ways}
use Rattle.amd_round_laws.proofs.Lists.Rising.{list_yes, list_no}
use Rattle.amd_model.specs.Below.{list_below, count_below}
use Rattle.amd_model.specs.Input.Pattern.{graph_of, is_pair}
use Rattle.amd_model.specs.Quotient.{starting_list}
use Rattle.amd_model.proofs.Counting.Below.{clash}
use Rattle.amd_edges.specs.Visits.{AreCounts}
use Rattle.amd_edges.proofs.Listing.{start_later}
use Rattle.amd_edges.proofs.Orders.{list_gap}
use Rattle.amd_words.specs.Words.{num, is_place, place, word, rows}
use Rattle.amd_words.proofs.RowLists.{rows_more, rows_same, rows_length, rows_both}
use Rattle.amd_workspace.specs.Copying.{is_other, HoldRows}
use Rattle.amd_workspace.specs.Lower.{IsLower, is_earlier, earlier_of, own_of}
use Rattle.amd_workspace.specs.Lower.{own_start, SpreadsColumns, SpreadsFirst, earlier_below}
use Rattle.amd_workspace.proofs.Layings.{row_word}
use Rattle.amd_workspace.proofs.LowerLists.{IsNth, nth_below, nth_once, length_more, length_grows, lower_list, lower_count}
use Rattle.amd_workspace.proofs.SymmetricCounts.{next_start}

pub rows_nth : (iw : List ℤ) (from count k : ℕ) → k < count → get_or (rows iw from count) k 0 ≡ place (word iw (from + k))
unfolding rows
rows_nth iw from zero k l = absurd (omega (arith, l))
rows_nth iw from (suc n) k l = let long = rows_length iw from n in elim (cases_lt k n) [
  | inl a ↦ get_or_append_left (rows iw from n) (place (word iw (from + n)) ∷ []) 0 k (omega (arith, a, long)) ∙ rows_nth iw from n k a
  | inr a ↦ (let e : n ≡ k = omega (arith, a, l) in get_or_push (rows iw from n) (place (word iw (from + n))) 0 k (long ∙ e)
      ∙ ap (λ m. place (word iw (from + m))) e)
]

-- a word that is a row is no mark
pub plain_word : (z : ℤ) → is_place z ≡ true → z ≡ pos (unsigned_abs z)
unfolding is_place
plain_word (pos k) e = refl
plain_word (negsuc k) e = absurd (false≢true e)

-- row j is written behind the earlier neighbours of the first k rows of its own column
abbrev pub partly : ℕ → List ℤ → List ℤ → ℕ → ℕ → ℕ → List ℕ
partly n ap' ai j k a = earlier_below n ap' ai j a
    ++ cond (ltb (length (list_below a (is_other n ap' ai j))) k && is_other n ap' ai j a) (j ∷ []) []

module _ (n : ℕ) (ap' ai : List ℤ) (lower : IsLower n ap' ai) where
  pub degree_parts : (i : ℕ) → i < n → count_below n ((graph_of n ap' ai).edge i) ≡
      length (earlier_of n ap' ai i) + length (own_of n ap' ai i)
  unfolding graph_of is_other is_earlier
  degree_parts i l = lower_count n (is_pair n ap' ai) lower i l

  pub lower_starting : (i : ℕ) → i < n → starting_list n (is_pair n ap' ai) i ≡ earlier_of n ap' ai i ++ own_of n ap' ai i
  unfolding is_other is_earlier
  lower_starting i l = lower_list n (is_pair n ap' ai) lower i l

  pub next_list : (i : ℕ) → i < n → own_start n ap' ai (i + 1) ≡
      own_start n ap' ai i + length (earlier_of n ap' ai i) + length (own_of n ap' ai i)
  next_list i l = let a = next_start n ap' ai i in let b = degree_parts i l in omega (arith, a, b)

  pub later_list : (i j : ℕ) → i < j → j ≤ n → own_start n ap' ai i + length (earlier_of n ap' ai i) + length (own_of n ap' ai i)
      ≤ own_start n ap' ai j
  unfolding graph_of
  later_list i j l m = let a = start_later (graph_of n ap' ai) i j l in let b = degree_parts i (omega (arith, l, m)) in omega (arith, a, b)

  -- the lists of more rows end later
  pub later_start : (i j : ℕ) → i ≤ j → j ≤ n → own_start n ap' ai i ≤ own_start n ap' ai j
  later_start i j l m = elim (cases_eq i j) [
    | inl e ↦ (let s = ap (own_start n ap' ai) e in omega (arith, s))
    | inr ne ↦ (let a = later_list i j (omega (arith, l, ne)) m in omega (arith, a))
  ]

  pub spreads_same : {m : ℕ} (early early' : ℕ → List ℕ) (next : List ℕ) (iw : List ℤ) → ((a : ℕ) → a < n → early' a ≡ early a) →
      SpreadsFirst n ap' ai m early next iw → SpreadsFirst n ap' ai m early' next iw
  spreads_same early early' next iw same h = record {
    held = h.held;
    long = h.long;
    ends = λ i l. h.ends i l ∙ ap (λ xs. own_start n ap' ai i + length xs) (sym (same i l));
    first = λ i l. subst (λ xs. rows iw (own_start n ap' ai i) (length xs) ≡ xs) (sym (same i l)) (h.first i l);
  }

  -- one earlier neighbour more
  module _ {m : ℕ} (within : m ≤ n) (early early' : ℕ → List ℕ) (next : List ℕ) (iw : List ℤ) (i j : ℕ)
      (h : SpreadsFirst n ap' ai m early next iw) (i_laid : i < m) (j_in : j < n) (fits : own_start n ap' ai m ≤ length iw)
      (few : length (early i) < length (earlier_of n ap' ai i))
      (most : (a : ℕ) → a < n → length (early a) ≤ length (earlier_of n ap' ai a))
      (here : early' i ≡ early i ++ j ∷ []) (there : (a : ℕ) → a < n → a ≢ i → early' a ≡ early a) where
    i_in : i < n
    i_in = omega (arith, i_laid, within)

    v : ℕ
    v = num next i

    v_is : v ≡ own_start n ap' ai i + length (early i)
    unfolding v
    v_is = h.ends i i_in

    pub v_inside : num next i < length iw
    v_inside = let a = h.ends i i_in in let b = later_list i m i_laid within in omega (arith, a, b, few, fits)

    new : List ℤ
    new = set iw (num next i) (pos j)

    still : (k : ℕ) → k ≢ num next i → word new k ≡ word iw k
    unfolding new
    still k ne = get_or-set_other iw (num next i) k (pos j) (pos 0) ne

    now : word new (num next i) ≡ pos j
    unfolding new
    now = get_or-set_same iw (num next i) (pos j) (pos 0) v_inside

    names : HoldRows n new
    names k = elim (cases_eq k (num next i)) [
      | inl e ↦ row_word n _ j (ap (word new) e ∙ now) j_in
      | inr ne ↦ rw (still k ne) (h.held.words k)
    ]

    own_kept : (a : ℕ) → a < m → rows new (own_start n ap' ai a + length (earlier_of n ap' ai a)) (length (own_of n ap' ai a))
        ≡ own_of n ap' ai a
    own_kept a l = rows_same iw new _ _ (length (own_of n ap' ai a)) (λ k x. still _ (λ w. let e = h.ends i i_in in elim (cases_lt a i) [
      | inl y ↦ (let z = later_list a i y (omega (arith, i_in)) in omega (arith, z, w, e, x))
      | inr y ↦ elim (cases_eq a i) [
        | inl s ↦ (let f = ap (own_start n ap' ai) s in let g = ap (λ t. length (earlier_of n ap' ai t)) s in
            omega (arith, w, e, f, g, few))
        | inr ne ↦ (let z = later_list i a (omega (arith, y, ne)) (omega (arith, l, within)) in omega (arith, z, w, e, few))
      ]
    ])) ∙ h.held.own a l

    first_kept : (a : ℕ) → a < n → a ≢ i → rows new (own_start n ap' ai a) (length (early a)) ≡ early a
    first_kept a l ne = rows_same iw new _ _ (length (early a)) (λ k x. still _ (λ w. let e = h.ends i i_in in let t = most a l in
        elim (cases_lt a i) [
          | inl y ↦ (let z = later_list a i y (omega (arith, i_in)) in omega (arith, z, w, e, x, t))
          | inr y ↦ (let z = later_list i a (omega (arith, y, ne)) (omega (arith, l)) in omega (arith, z, w, e, few))
        ])) ∙ h.first a l

    before_kept : rows new (own_start n ap' ai i) (length (early i)) ≡ early i
    before_kept = rows_same iw new _ _ (length (early i)) (λ k x. still _ (λ w. let e = h.ends i i_in in omega (arith, e, w, x)))
        ∙ h.first i i_in

    long_here : length (early' i) ≡ length (early i) + 1
    long_here = ap length here ∙ length-append (early i) (j ∷ [])

    first_here : rows new (own_start n ap' ai i) (length (early' i)) ≡ early' i
    unfolding place
    first_here = ap (rows new (own_start n ap' ai i)) long_here ∙ rows_more new (own_start n ap' ai i) (length (early i))
        ∙ ap (λ xs. xs ++ place (word new (own_start n ap' ai i + length (early i))) ∷ []) before_kept
        ∙ ap (λ x. early i ++ x ∷ []) (ap (λ k. place (word new k)) (sym (h.ends i i_in)) ∙ ap place now) ∙ sym here

    pub spreads_more : SpreadsFirst n ap' ai m early' (set next i (num next i + 1)) (set iw (num next i) (pos j))
    unfolding new
    spreads_more = record {
      held = record { words = names; own = own_kept };
      long = length-set next i (num next i + 1) ∙ h.long;
      ends = λ a l. elim (cases_eq a i) [
        | inl e ↦ subst (λ x. num (set next i (num next i + 1)) x ≡ own_start n ap' ai x + length (early' x)) (sym e)
            (get_or-set_same next i (num next i + 1) 0 (let s = h.long in omega (arith, s, i_in))
            ∙ (let t = h.ends i i_in in omega (arith, t, long_here)))
        | inr ne ↦ get_or-set_other next i a (num next i + 1) 0 ne ∙ h.ends a l
            ∙ ap (λ xs. own_start n ap' ai a + length xs) (sym (there a l ne))
      ];
      first = λ a l. elim (cases_eq a i) [
        | inl e ↦ subst (λ x. rows (set iw (num next i) (pos j)) (own_start n ap' ai x) (length (early' x)) ≡ early' x) (sym e) first_here
        | inr ne ↦ subst (λ xs. rows (set iw (num next i) (pos j)) (own_start n ap' ai a) (length xs) ≡ xs) (sym (there a l ne))
            (first_kept a l ne)
      ];
    }

  -- ---- the rows of one column

  module _ (j : ℕ) (j_in : j < n) where
    q : ℕ → Bool
    q = is_other n ap' ai j

    pub other_early : (a : ℕ) → is_other n ap' ai j a ≡ true → is_earlier n ap' ai a j ≡ true
    unfolding is_other is_earlier
    other_early a e = let p = and_parts _ _ e in let v = lower a j p.1 in elim (cases_eq a j) [
      | inl w ↦ clash (eq-eqb a j w) (not-true _ p.0)
      | inr ne ↦ and_from _ _ (lt-ltb j a (omega (arith, v, ne))) p.1
    ]

    pub early_other : (a : ℕ) → is_earlier n ap' ai a j ≡ true → is_other n ap' ai j a ≡ true
    unfolding is_other is_earlier
    early_other a e = let p = and_parts _ _ e in let v = ltb-true j a p.0 in
        and_from _ _ (not_from_false _ (ne_eqb a j (λ w. omega (arith, v, w)))) p.1

    none_before : (x : ℕ) → ltb x 0 ≡ false
    none_before x = false_from_ne_true (ltb x 0) (λ w. let v = ltb-true x 0 w in omega (arith, v))

    pub partly_start : (a : ℕ) → partly n ap' ai j 0 a ≡ earlier_below n ap' ai j a
    partly_start a = rw (none_before (length (list_below a (is_other n ap' ai j)))) (append-nil (earlier_below n ap' ai j a))

    and_none : (b : Bool) → (b && false) ≡ false
    and_none true = refl
    and_none false = refl

    -- a row that is not in the column
    partly_none : (k a : ℕ) → is_other n ap' ai j a ≡ false → partly n ap' ai j k a ≡ earlier_below n ap' ai j a
    partly_none k a e = rw (e, and_none (ltb (length (list_below a (is_other n ap' ai j))) k)) (append-nil (earlier_below n ap' ai j a))

    pub partly_end : (k : ℕ) → length (own_of n ap' ai j) ≤ k → (a : ℕ) → a < n → earlier_below n ap' ai (j + 1) a ≡ partly n ap' ai j k a
    partly_end k all a l = elim (cases_Bool (is_other n ap' ai j a)) [
      | inl e ↦ (let w = length_grows n a (is_other n ap' ai j) l e in
          rw (e, lt-ltb (length (list_below a (is_other n ap' ai j))) k (omega (arith, w, all)))
          (list_yes (is_earlier n ap' ai a) j (other_early a e)))
      | inr e ↦ list_no (is_earlier n ap' ai a) j (false_from_ne_true _ (λ w. clash (early_other a w) e)) ∙ sym (partly_none k a e)
    ]

    pub partly_most : (k a : ℕ) → a < n → length (partly n ap' ai j k a) ≤ length (earlier_of n ap' ai a)
    partly_most k a l = elim (cases_Bool (is_other n ap' ai j a)) [
      | inl e ↦ (let w = length_grows n j (is_earlier n ap' ai a) j_in (other_early a e) in
          let one = at_most (ltb (length (list_below a (is_other n ap' ai j))) k && is_other n ap' ai j a) in
          let long = length-append (earlier_below n ap' ai j a)
          (cond (ltb (length (list_below a (is_other n ap' ai j))) k && is_other n ap' ai j a) (j ∷ []) []) in omega (arith, w, one, long))
      | inr e ↦ (let w = length_more n j (is_earlier n ap' ai a) (omega (arith, j_in)) in let s = ap length (partly_none k a e) in
          omega (arith, w, s))
    ]
      where
        at_most : (b : Bool) → length (cond b (j ∷ []) []) ≤ 1
        at_most true = omega arith
        at_most false = omega arith

    -- its own earlier neighbours are all there
    pub early_all : earlier_of n ap' ai j ≡ earlier_below n ap' ai j j
    unfolding is_earlier
    early_all = list_gap (is_earlier n ap' ai j) j n (omega (arith, j_in)) (λ x low high. false_from_ne_true _ (λ e.
        let v = ltb-true x j (and_parts _ _ e).0 in omega (arith, v, low)))

    module _ (m k i from : ℕ) (next : List ℕ) (iw : List ℤ) (within : m ≤ n) (j_laid : j < m)
        (laid : (a : ℕ) → is_pair n ap' ai a j ≡ true → a < m) (fits : own_start n ap' ai m ≤ length iw)
        (h : SpreadsFirst n ap' ai m (partly n ap' ai j k) next iw) (k_in : k < length (own_of n ap' ai j))
        (from_is : from ≡ own_start n ap' ai j + length (earlier_of n ap' ai j)) (is : word iw (from + k) ≡ pos i) where
      row_is : i ≡ get_or (own_of n ap' ai j) k 0
      unfolding place
      row_is = sym (ap place is) ∙ ap (λ f. place (word iw (f + k))) from_is
          ∙ sym (rows_nth iw (own_start n ap' ai j + length (earlier_of n ap' ai j)) (length (own_of n ap' ai j)) k k_in)
          ∙ ap (λ xs. get_or xs k 0) (h.held.own j j_laid)

      nth : IsNth n (is_other n ap' ai j) k i
      nth = subst (IsNth n (is_other n ap' ai j) k) (sym row_is) (nth_below n (is_other n ap' ai j) k k_in)

      pub spread_row : i < n
      spread_row = nth.small

      row_laid : i < m
      unfolding is_other
      row_laid = laid i (and_parts _ _ nth.passes).1

      not_yet : ltb (length (list_below i (is_other n ap' ai j))) k ≡ false
      not_yet = false_from_ne_true _ (λ w. let v = ltb-true (length (list_below i (is_other n ap' ai j))) k w in let b = nth.before in
          omega (arith, v, b))

      now_done : ltb (length (list_below i (is_other n ap' ai j))) (k + 1) ≡ true
      now_done = lt-ltb _ _ (let b = nth.before in omega (arith, b))

      before_is : partly n ap' ai j k i ≡ earlier_below n ap' ai j i
      before_is = rw not_yet (append-nil (earlier_below n ap' ai j i))

      here_more : partly n ap' ai j (k + 1) i ≡ partly n ap' ai j k i ++ j ∷ []
      here_more = rw (now_done, nth.passes, not_yet) (ap (λ xs. xs ++ j ∷ []) (sym (append-nil (earlier_below n ap' ai j i))))

      there_same : (a : ℕ) → a < n → a ≢ i → partly n ap' ai j (k + 1) a ≡ partly n ap' ai j k a
      there_same a l ne = elim (cases_Bool (is_other n ap' ai j a)) [
        | inr e ↦ partly_none (k + 1) a e ∙ sym (partly_none k a e)
        | inl e ↦ (let L = length (list_below a (is_other n ap' ai j)) in
            let other : L ≢ k = (λ w. ne (nth_once a i (is_other n ap' ai j) e nth.passes (w ∙ sym nth.before))) in
            ap (λ b. earlier_below n ap' ai j a ++ cond (b && is_other n ap' ai j a) (j ∷ []) [])
            (both_ways (ltb L (k + 1)) (ltb L k)
            (λ w. let v = ltb-true L (k + 1) w in lt-ltb L k (omega (arith, v, other)))
            (λ w. let v = ltb-true L k w in lt-ltb L (k + 1) (omega (arith, v)))))
      ]

      few : length (partly n ap' ai j k i) < length (earlier_of n ap' ai i)
      few = let w = length_grows n j (is_earlier n ap' ai i) j_in (other_early i nth.passes) in let s = ap length before_is in
          omega (arith, w, s)

      pub spread_inside : num next i < length iw
      spread_inside = v_inside within (partly n ap' ai j k) (partly n ap' ai j (k + 1)) next iw i j h row_laid j_in fits few (partly_most k)
          here_more there_same

      pub spread_step : SpreadsFirst n ap' ai m (partly n ap' ai j (k + 1)) (set next i (num next i + 1)) (set iw (num next i) (pos j))
      spread_step = spreads_more within (partly n ap' ai j k) (partly n ap' ai j (k + 1)) next iw i j h row_laid j_in fits few
          (partly_most k)
          here_more there_same

  -- ---- all rows

  pub spread_lists_are : (degrees : List ℕ) (next : List ℕ) (iw : List ℤ) →
      AreCounts (graph_of n ap' ai) ((graph_of n ap' ai).edge) degrees →
      SpreadsColumns n ap' ai (earlier_below n ap' ai n) next iw → (i : ℕ) → i < n →
      rows iw (own_start n ap' ai i) (num degrees i) ≡ starting_list n (is_pair n ap' ai) i
  unfolding graph_of
  spread_lists_are degrees next iw counts h i l =
      let e : num degrees i ≡ length (earlier_of n ap' ai i) + length (own_of n ap' ai i) = counts.each i l ∙ degree_parts i l in
      ap (rows iw (own_start n ap' ai i)) e
      ∙ rows_both iw (own_start n ap' ai i) (length (earlier_of n ap' ai i)) (length (own_of n ap' ai i))
      ∙ ap (λ xs. xs ++ rows iw (own_start n ap' ai i + length (earlier_of n ap' ai i)) (length (own_of n ap' ai i))) (h.first i l)
      ∙ ap (λ xs. earlier_of n ap' ai i ++ xs) (h.held.own i l) ∙ sym (lower_starting i l)

  pub next_end : (degrees : List ℕ) → AreCounts (graph_of n ap' ai) ((graph_of n ap' ai).edge) degrees → (j end : ℕ) → j < n →
      end ≡ own_start n ap' ai j → end + num degrees j ≡ own_start n ap' ai (j + 1)
  unfolding graph_of
  next_end degrees counts j end l e = let a = next_list j l in let b = counts.each j l in let d = degree_parts j l in
      omega (arith, a, b, d, e)

  pub degree_is : (degrees : List ℕ) → AreCounts (graph_of n ap' ai) ((graph_of n ap' ai).edge) degrees → (j : ℕ) → j < n →
      num degrees j ≡ length (earlier_of n ap' ai j) + length (own_of n ap' ai j)
  unfolding graph_of
  degree_is degrees counts j l = counts.each j l ∙ degree_parts j l

  pub list_room : (degrees : List ℕ) → AreCounts (graph_of n ap' ai) ((graph_of n ap' ai).edge) degrees → (j end : ℕ) → j < n →
      end ≡ own_start n ap' ai j → end + num degrees j ≤ own_start n ap' ai n
  list_room degrees counts j end l e =
      let a = degree_is degrees counts j l in let b = later_list j n l (omega arith) in omega (arith, a, b, e)
