-- The lists of neighbours, laid one after another in one workspace.
use Rattle.std.proofs.Common.{ℕ, ℤ, Bool, true, false, List, [], ◌∷◌, ◌++◌, zero, suc, ◌≡◌, ◌<◌, ◌≤◌, ◌+◌, ◌-◌, inl, inr}
use Rattle.std.proofs.Common.{refl, sym, ap, ◌∙◌, arith, cond, map, length, get_or, set, take, drop, pos, get_or-set_same, get_or-set_other}
use Rattle.std.proofs.Common.{length-drop, ◌≢◌, subst}
use Rattle.std.specs.Prelude.{replicate}
use Rattle.std.proofs.lemmas.Bool.{cases_Bool, cases_eq, cases_lt}
use Rattle.std.proofs.lemmas.List.{length-map, length-set, length-replicate, get_or-replicate, get_or-map, get_or-drop, get_or_past}
use Rattle.std.proofs.lemmas.List.{map-set, take_at, take_more, map-append}
use Rattle.amd_model.specs.Below.{sum_below, count_below}
use Rattle.amd_model.specs.Graph.{Graph}
use Rattle.amd_edges.specs.Visits.{IsNew, IsNewEdge, with_arc, with_edge, AreCounts, start_of, ends_of}
use Rattle.amd_edges.proofs.Arcs.{ends_apart, written_again}
use Rattle.amd_edges.proofs.Listing.{start_later, start_sums, lists_none, lists_more, place_in}
use Rattle.amd_words.specs.Words.{num, is_place, place, word, start, rows}
use Rattle.amd_lists.specs.Layout.{has_list, end_of, list_in, live_words}
use Rattle.amd_lists.proofs.Frames.{has_parts, has_none}
use Rattle.amd_words.proofs.RowLists.{rows_at, rows_none, rows_more}
use Rattle.amd_workspace.specs.Copying.{HoldRows}
use Rattle.amd_workspace.specs.Laying.{Lays, Starts, IsLaidOut}

-- ---- words as rows

pub row_at : (iw : List ℤ) (k : ℕ) → get_or (map place iw) k 0 ≡ place (word iw k)
unfolding place
row_at iw k = elim (cases_lt k (length iw)) [
  | inl l ↦ get_or-map place iw k (pos 0) 0 l
  | inr l ↦ get_or_past (map place iw) k 0 (let e = length-map iw place in omega (arith, e, l))
      ∙ ap place (sym (get_or_past iw k (pos 0) l))
]

-- the rows of a stretch of words are a stretch of the rows of all words
pub rows_slice : (iw : List ℤ) (from count : ℕ) → from + count ≤ length iw → rows iw from count ≡ take count (drop from (map place iw))
rows_slice iw from zero l = rows_none iw from
rows_slice iw from (suc n) l =
    let e : suc n ≡ n + 1 = omega arith in
    let long : n < length (drop from (map place iw)) = (let a = length-drop from (map place iw) in let b = length-map iw place in
    omega (arith, a, b, l)) in
    let last : get_or (drop from (map place iw)) n 0 ≡ place (word iw (from + n)) =
    get_or-drop from (map place iw) n 0 ∙ row_at iw (from + n) in
    ap (rows iw from) e ∙ rows_more iw from n ∙ ap (λ xs. xs ++ place (word iw (from + n)) ∷ []) (rows_slice iw from n (omega (arith, l)))
    ∙ ap (λ x. take n (drop from (map place iw)) ++ x ∷ []) (sym last) ∙ sym (take_more (drop from (map place iw)) n 0 long)
    ∙ ap (λ m. take m (drop from (map place iw))) (sym e)

place_set : (iw : List ℤ) (v j : ℕ) → map place (set iw v (pos j)) ≡ set (map place iw) v j
unfolding place
place_set iw v j = map-set place iw v (pos j)

-- what is written into all elements of a list is the list
pub written : {X : Type 0} (xs ys rest : List X) (count : ℕ) → xs ≡ ys → length ys ≡ count → take count (xs ++ rest) ≡ ys
written xs ys rest count e l = take_at xs rest count (ap length e ∙ l) ∙ e

-- the numbers of a room that is kept
pub kept_room : {a b d x y z : ℕ} → a ∷ b ∷ d ∷ [] ≡ x ∷ y ∷ z ∷ [] → (a ≡ x) × (b ≡ y) × (d ≡ z)
kept_room e = (cc, cc, cc)

-- the words of a vector, when a row was written behind a list
pub appended : (next lent_next : List ℕ) (iw lent_iw new_iw : List ℤ) (i j count : ℕ) → lent_next ≡ next → lent_iw ≡ iw →
    new_iw ≡ set lent_iw (get_or lent_next i 0) (pos j) → length iw ≡ count →
    take count (new_iw ++ drop (length new_iw) iw) ≡ set iw (get_or next i 0) (pos j)
appended next lent_next iw lent_iw new_iw i j count next_is iw_is new long =
    written new_iw (set iw (get_or next i 0) (pos j)) (drop (length new_iw) iw) count
    (new ∙ ap (λ xs. set lent_iw (get_or xs i 0) (pos j)) next_is ∙ ap (λ xs. set xs (get_or next i 0) (pos j)) iw_is)
    (length-set iw (get_or next i 0) (pos j) ∙ long)

-- the places of a vector, when that behind a list moved on
pub moved_on : (next lent new : List ℕ) (i count : ℕ) → lent ≡ next → new ≡ set lent i (get_or lent i 0 + 1) → length next ≡ count →
    take count (new ++ drop (length new) next) ≡ set next i (get_or next i 0 + 1)
moved_on next lent new i count same is long = written new (set next i (get_or next i 0 + 1)) (drop (length new) next) count
    (is ∙ ap (λ xs. set xs i (get_or xs i 0 + 1)) same) (length-set next i (get_or next i 0 + 1) ∙ long)

pub row_word : (n : ℕ) (x : ℤ) (j : ℕ) → x ≡ pos j → j < n → (is_place x ≡ true) × (place x < n)
unfolding is_place place
row_word n x j e l = rw e (refl, l)

-- words that are all the number of one row name rows
pub same_are_rows : (n room row : ℕ) → row < n → HoldRows n (replicate room (pos row))
same_are_rows n room row small k = elim (cases_lt k room) [
  | inl l ↦ row_word n _ row (get_or-replicate room k (pos row) (pos 0) l) small
  | inr l ↦ row_word n _ 0 (get_or_past (replicate room (pos row)) k (pos 0)
      (let size = length-replicate room (pos row) in omega (arith, size, l))) (omega (arith, small))
]

-- ---- the walk

module _ (g : Graph) (seen : ℕ → ℕ → Bool) (arcs : List (ℕ × ℕ)) (i j : ℕ) (new : IsNew g seen i j) (most_word most_cell : ℕ)
    (next : List ℕ) (iw : List ℤ) (h : Lays g seen arcs most_word most_cell next iw) where
  pub lay_in : get_or next i 0 < length iw
  lay_in = let a = place_in g seen arcs i j new next (map place iw) h.lists in let b = length-map iw place in omega (arith, a, b)

  pub lays_more : (value : ℕ) → value ≡ get_or next i 0 →
      Lays g (with_arc seen i j) (arcs ++ (i, j) ∷ []) most_word most_cell (set next i (value + 1)) (set iw value (pos j))
  lays_more value is = record {
    lists = rw (place_set iw value j) (lists_more g seen arcs i j new next (map place iw) h.lists value is);
    words = λ k. elim (cases_eq k value) [
      | inl e ↦ row_word g.size _ j (rw e (get_or-set_same iw value (pos j) (pos 0) (let a = lay_in in omega (arith, a, is)))) new.j_row
      | inr ne ↦ rw (get_or-set_other iw value k (pos j) (pos 0) ne) (h.words k)
    ];
    rows = h.rows;
    places = (let a = length-set iw value (pos j) in let b = h.places in omega (arith, a, b));
  }

-- the words in a run of row j, whose list ends at the mark: both arcs of one edge more
module _ (g : Graph) (seen : ℕ → ℕ → Bool) (arcs : List (ℕ × ℕ)) (i j mark : ℕ) (new : IsNewEdge g seen i j)
    (most_word most_cell : ℕ) (next : List ℕ) (iw : List ℤ)
    (h : Lays g seen arcs most_word most_cell (set next j mark) iw) where
  ne : i ≢ j
  ne = ends_apart g seen i j new

  pub run_long : length next ≡ g.size
  run_long = sym (length-set next j mark) ∙ h.lists.size

  other_end : get_or (set next j mark) i 0 ≡ get_or next i 0
  other_end = get_or-set_other next j i mark 0 ne

  pub other_in : get_or next i 0 < length iw
  other_in = let a = lay_in g seen arcs i j new.there most_word most_cell (set next j mark) iw h in let b = other_end in
      omega (arith, a, b)

  module _ (value : ℕ) (is : value ≡ get_or next i 0) where
    there : Lays g (with_arc seen i j) (arcs ++ (i, j) ∷ []) most_word most_cell (set (set next j mark) i (value + 1))
        (set iw value (pos j))
    there = lays_more g seen arcs i j new.there most_word most_cell (set next j mark) iw h value (is ∙ sym other_end)

    own_end : mark ≡ get_or (set (set next j mark) i (value + 1)) j 0
    own_end = sym (get_or-set_other (set next j mark) i j (value + 1) 0 (λ e. ne (sym e))
        ∙ get_or-set_same next j mark 0 (let a = run_long in let b = new.there.j_row in omega (arith, a, b)))

    pub own_in : mark < length iw
    own_in = let a = lay_in g (with_arc seen i j) (arcs ++ (i, j) ∷ []) j i new.back most_word most_cell
        (set (set next j mark) i (value + 1)) (set iw value (pos j)) there in
        let b = own_end in let c = length-set iw value (pos j) in omega (arith, a, b, c)

    pub run_more : Lays g (with_edge seen i j) ((arcs ++ (i, j) ∷ []) ++ (j, i) ∷ []) most_word most_cell
        (set (set next i (value + 1)) j (mark + 1)) (set (set iw value (pos j)) mark (pos i))
    run_more = subst (λ ends. Lays g (with_edge seen i j) ((arcs ++ (i, j) ∷ []) ++ (j, i) ∷ []) most_word most_cell ends
        (set (set iw value (pos j)) mark (pos i))) (written_again next i j mark (value + 1) (mark + 1) ne)
        (lays_more g (with_arc seen i j) (arcs ++ (i, j) ∷ []) j i new.back most_word most_cell
        (set (set next j mark) i (value + 1)) (set iw value (pos j)) there mark own_end)

-- ---- the starts

pub sum_next : (n : ℕ) (f : ℕ → ℕ) → sum_below (n + 1) f ≡ f n + sum_below n f
unfolding sum_below
sum_next n f = let e : n + 1 ≡ suc n = omega arith in ap (λ m. sum_below m f) e

pub total_is : (g : Graph) (degrees : List ℕ) → AreCounts g g.edge degrees → sum_below (length degrees) (num degrees) ≡ start_of g g.size
total_is g degrees h = ap (λ n. sum_below n (num degrees)) h.size ∙ start_sums g degrees h g.size (omega arith)

-- one start more
pub words_next : (pe : List ℤ) (next : List ℕ) (total : ℕ) → pe ≡ map pos next → pe ++ pos total ∷ [] ≡ map pos (next ++ total ∷ [])
words_next pe next total e = ap (λ xs. xs ++ pos total ∷ []) e ∙ sym (map-append pos next (total ∷ []))

module _ (g : Graph) (degrees : List ℕ) (pe : List ℤ) (next : List ℕ) (counts : AreCounts g g.edge degrees)
    (s : Starts degrees pe next) where
  pub first_at : (i : ℕ) → i < g.size → get_or next i 0 ≡ start_of g i
  first_at i l = s.each i (let a = counts.size in omega (arith, a, l)) ∙ start_sums g degrees counts i (omega (arith, l))

  start_word : (i : ℕ) → i < g.size → word pe i ≡ pos (start_of g i)
  start_word i l = ap (λ w. word w i) s.words
      ∙ get_or-map pos next i 0 (pos 0) (let a = counts.size in let b = s.long in omega (arith, a, b, l)) ∙ ap pos (first_at i l)

  pub start_at : (i : ℕ) → i < g.size → start pe i ≡ start_of g i
  unfolding place
  start_at i l = ap place (start_word i l)

  start_place : (i : ℕ) → i < g.size → is_place (word pe i) ≡ true
  unfolding is_place
  start_place i l = ap is_place (start_word i l)

  pub count_at : (i : ℕ) → i < g.size → num degrees i ≡ count_below g.size (g.edge i)
  count_at i l = counts.each i l

  long : length degrees ≡ g.size
  long = counts.size

  in_rows : (j : ℕ) → has_list pe degrees j ≡ true → j < g.size
  in_rows j h = elim (cases_lt j (length degrees)) [
    | inl l ↦ (let a = long in omega (arith, a, l))
    | inr l ↦ (let a = (has_parts pe degrees j h).1 in let b = get_or_past degrees j 0 l in absurd (omega (arith, a, b)))
  ]

  words_sum : (n : ℕ) → n ≤ g.size → live_words n pe degrees ≡ start_of g n
  unfolding sum_below start_of
  words_sum zero l = refl
  words_sum (suc n) l =
      let a = words_sum n (omega (arith, l)) in let m = count_at n (omega (arith, l)) in
      let own : cond (has_list pe degrees n) (num degrees n) 0 ≡ num degrees n = elim (cases_Bool (has_list pe degrees n)) [
        | inl h ↦ ap (λ b. cond b (num degrees n) 0) h
        | inr h ↦ ap (λ b. cond b (num degrees n) 0) h ∙ sym (has_none pe degrees n (start_place n (omega (arith, l))) h)
      ] in
      omega (arith, a, m, own)

  -- a list that was written at the start of a row, and is as long as its degree says
  pub list_at : (iw : List ℤ) (xs : List ℕ) (i : ℕ) → i < g.size → rows iw (start_of g i) (num degrees i) ≡ xs → list_in iw pe degrees
      i ≡ xs
  list_at iw xs i l e = rows_at iw (start_at i l) refl ∙ e

  module _ (iw : List ℤ) (names : HoldRows g.size iw) (room : start_of g g.size ≤ length iw) where
    within : (j : ℕ) → has_list pe degrees j ≡ true → end_of pe degrees j ≤ start_of g g.size
    within j k = let l = in_rows j k in let a = start_at j l in let c = count_at j l in let b = start_later g j g.size l in
        omega (arith, a, b, c)

    before : (i j : ℕ) → i < j → j < g.size → end_of pe degrees i ≤ start pe j
    before i j l m = let x = start_at i (omega (arith, l, m)) in let y = start_at j m in let c = count_at i (omega (arith, l, m)) in
        let b = start_later g i j l in omega (arith, x, y, b, c)

    pub laid_out : IsLaidOut g.size iw pe degrees (start_of g g.size)
    unfolding place
    laid_out = record {
      starts_long = ap length s.words ∙ length-map next pos ∙ s.long ∙ counts.size;
      lengths_long = long;
      starts = start_place;
      layout = record {
        within = within;
        apart = λ i j a b ne. elim (cases_lt i j) [
          | inl l ↦ inl (before i j l (in_rows j b))
          | inr l ↦ inr (before j i (omega (arith, l, ne)) (in_rows i a))
        ];
        parts = λ j a. (let e : place (word (replicate g.size (pos 0)) j) ≡ 0 =
            ap place (get_or-replicate g.size j (pos 0) (pos 0) (in_rows j a)) in omega (arith, e));
        words = λ k l. names k;
      };
      words = words_sum g.size (omega arith);
      room = room;
    }

-- ---- the lists of a walk over all edges

-- no list is there before the walk
pub lays_none : (g : Graph) (next : List ℕ) → length next ≡ g.size → ((i : ℕ) → i < g.size → get_or next i 0 ≡ start_of g i) →
    (most_word most_cell : ℕ) (iw : List ℤ) → HoldRows g.size iw → start_of g g.size ≤ length iw → g.size ≤ most_word →
    length iw ≤ most_cell → Lays g (λ a b. false) [] most_word most_cell next iw
lays_none g next long first most_word most_cell iw names fits rows places = record {
  lists = lists_none g next (map place iw) long (let a = length-map iw place in omega (arith, a, fits)) first;
  words = names;
  rows = rows;
  places = places;
}

-- afterwards the list of a row has the rows that its arcs lead to, in their order
pub walked_list : (g : Graph) (degrees : List ℕ) → AreCounts g g.edge degrees → (arcs : List (ℕ × ℕ)) (most_word most_cell : ℕ)
    (ends : List ℕ) (iw : List ℤ) → Lays g g.edge arcs most_word most_cell ends iw → (i : ℕ) → i < g.size →
    rows iw (start_of g i) (num degrees i) ≡ ends_of i arcs
walked_list g degrees counts arcs most_word most_cell ends iw h i l =
    let c : num degrees i ≡ count_below g.size (g.edge i) = counts.each i l in
    let e = h.lists.ends i l in let b = start_later g i g.size l in let a = h.lists.room in let r = length-map iw place in
    let m : get_or ends i 0 - start_of g i ≡ num degrees i = omega (arith, c, e) in
    let fits : start_of g i + num degrees i ≤ length iw = omega (arith, b, c, a, r) in
    rows_slice iw (start_of g i) (num degrees i) fits
    ∙ ap (λ k. take k (drop (start_of g i) (map place iw))) (sym m) ∙ h.lists.order i l
