-- The fill of a column in a square of cells, row by row; of a supernode, column by column; and of all.
use Rattle.std.proofs.Common.{◌≡◌, ◌≢◌, ◌<◌, ◌≤◌, ◌+◌, ◌*◌, ◌/◌, ◌++◌, ◌↔◌, ℕ, List, [], ◌∷◌, inl, inr, arith, length, sym, subst, ◌∙◌, ap}
use Rattle.std.proofs.Common.{get_or, refl, take, ⊎_elim}
use Rattle.std.specs.Prelude.{◌⊎◌, Contains, max, slice_index}
use Rattle.std.proofs.lemmas.Bool.{cases_eq, cases_lt}
use Rattle.std.proofs.lemmas.List.{get_or_past, take_more}
use Rattle.std.proofs.lemmas.List.Elements.{Contains-append_cases, Contains-append_left, Contains-append_right, Contains-push}
use Rattle.std.proofs.lemmas.List.Elements.{Contains-push_cases}
use Rattle.amd_report.specs.declared.grids.Grid.{Grid}
use Rattle.amd_report.specs.Grids.{SameCells, cell_of}
use Rattle.amd_report.specs.Fills.{AddsFill, AreBoth, AreOpened, IsBelow, IsColumnFill, IsLoose, IsReady, Sifts, TakesEntry}
use Rattle.amd_report.proofs.Cells.{cells-then, same-cell}

-- one row more is stamped
pub stamped-next : (later edge new : List ℕ) (k i x n row : ℕ) → i < length later → row ≡ get_or later i x
    → ((j : ℕ) → j < n → (slice_index edge j ≡ k + 1) ↔ Contains (take i later) j)
    → (row < n → slice_index new row ≡ k + 1) → ((j : ℕ) → j ≢ row → slice_index new j ≡ slice_index edge j)
    → (j : ℕ) → j < n → (slice_index new j ≡ k + 1) ↔ Contains (take (i + 1) later) j
stamped-next later edge new k i x n row inside is so_far here others j low =
    let more : take (i + 1) later ≡ take i later ++ row ∷ [] = take_more later i x inside ∙ ap (λ z. take i later ++ z ∷ []) (sym is) in
    ⊎_elim
    (λ e. (
      (λ _. subst (λ z. Contains z j) (sym more)
          (subst (λ z. Contains (take i later ++ row ∷ []) z) (sym e) (Contains-push (take i later) row))),
      (λ _. subst (λ z. slice_index new z ≡ k + 1) (sym e) (here (subst (λ z. z < n) e low))),
    ))
    (λ ne. (
      (λ stamped. subst (λ z. Contains z j) (sym more) (Contains-append_left (take i later) (row ∷ []) j
          ((so_far j low).0 (sym (others j ne) ∙ stamped)))),
      (λ has. others j ne ∙ (so_far j low).1 (⊎_elim (λ old. old) (λ e. absurd (ne (sym e)))
          (Contains-push_cases (take i later) row j (subst (λ z. Contains z j) more has)))),
    ))
    (cases_eq j row)

pub most-next : (edge new : List ℕ) (k n row : ℕ) → length new ≡ n → ((j : ℕ) → slice_index edge j ≤ k + 1)
    → (row < n → slice_index new row ≡ k + 1) → ((j : ℕ) → j ≢ row → slice_index new j ≡ slice_index edge j)
    → (j : ℕ) → slice_index new j ≤ k + 1
most-next edge new k n row room most here others j =
    ⊎_elim
    (λ e. ⊎_elim
    (λ low. subst (λ z. slice_index new z ≤ k + 1) (sym e) (let a = here low in omega (arith, a)))
    (λ past. subst (λ z. slice_index new z ≤ k + 1) (sym e)
    (let a = get_or_past new row 0 (omega (arith, past, room)) in omega (arith, a)))
    (cases_lt row n))
    (λ ne. (let a = others j ne in let b = most j in omega (arith, a, b)))
    (cases_eq j row)

-- what is marked stays marked
pub both-kept : {A : Type 0} (g h : Grid A) (k j : ℕ) → SameCells g h
    → ((cell : ℕ) → slice_index g.marks.items cell ≢ 0 → slice_index h.marks.items cell ≢ 0) → AreBoth g k j → AreBoth h k j
both-kept g h k j same kept b = (
  subst (λ z. slice_index h.marks.items z ≢ 0) (sym (same-cell g h (j, k) same)) (kept (cell_of g (j, k)) b.0),
  subst (λ z. slice_index h.marks.items z ≢ 0) (sym (same-cell g h (k, j) same)) (kept (cell_of g (k, j)) b.1),
)

-- the cell of a place in a square with the same cells
pub cell-back : {A : Type 0} (g h : Grid A) (k j cell : ℕ) → SameCells g h
    → (cell_of h (j, k) ≡ cell) ⊎ (cell_of h (k, j) ≡ cell) → (cell_of g (j, k) ≡ cell) ⊎ (cell_of g (k, j) ≡ cell)
cell-back g h k j cell same (inl e) = inl (sym (same-cell g h (j, k) same) ∙ e)
cell-back g h k j cell same (inr e) = inr (sym (same-cell g h (k, j) same) ∙ e)

-- nothing is sifted yet
pub sifts-none : {A : Type 0} (g : Grid A) (k : ℕ) (edge : List ℕ) → Sifts g g k edge [] []
sifts-none g k edge = record {
  same = record { step = refl; side = refl; cells = refl };
  kept = λ cell some. some;
  only = λ cell some. inl some;
  each = λ j has. absurd (let l = has.1 in omega (arith, l));
  from = λ j has. has;
}

module _ {A : Type 0} (f g h : Grid A) (k : ℕ) (edge rows kept : List ℕ) (i x : ℕ) (inside : i < length rows)
    (s : Sifts f g k edge (take i rows) kept) (t : TakesEntry g h k (get_or rows i x) edge) where
  abbrev row : ℕ
  row = get_or rows i x

  more : take (i + 1) rows ≡ take i rows ++ row ∷ []
  more = take_more rows i x inside

  to-more : (j : ℕ) → Contains (take i rows) j → Contains (take (i + 1) rows) j
  to-more j has = subst (λ z. Contains z j) (sym more) (Contains-append_left (take i rows) (row ∷ []) j has)

  last : Contains (take (i + 1) rows) row
  last = subst (λ z. Contains z row) (sym more) (Contains-push (take i rows) row)

  cases : (j : ℕ) → Contains (take (i + 1) rows) j → Contains (take i rows) j ⊎ (row ≡ j)
  cases j has = Contains-push_cases (take i rows) row j (subst (λ z. Contains z j) more has)

  same' : SameCells f h
  same' = cells-then f g h s.same t.same

  kept' : (cell : ℕ) → slice_index f.marks.items cell ≢ 0 → slice_index h.marks.items cell ≢ 0
  kept' cell some = t.kept cell (s.kept cell some)

  only' : (cell : ℕ) → slice_index h.marks.items cell ≢ 0 → (slice_index f.marks.items cell ≢ 0)
      ⊎ ((j : ℕ) × Contains (take (i + 1) rows) j × IsLoose k edge j
      × ((cell_of f (j, k) ≡ cell) ⊎ (cell_of f (k, j) ≡ cell)))
  only' cell some = ⊎_elim
      (λ old. ⊎_elim (λ first. inl first)
      (λ found. inr (found.0, to-more found.0 found.1, found.2, found.3)) (s.only cell old))
      (λ new. inr (row, last, new.0, cell-back f g k row cell s.same new.1))
      (t.only cell some)

  -- the row is done
  pub sifts-done : (k < row → row < length edge → AreBoth h k row) → Sifts f h k edge (take (i + 1) rows) kept
  sifts-done done = record {
    same = same';
    kept = kept';
    only = only';
    each = λ j has low within. ⊎_elim
        (λ old. ⊎_elim (λ stays. inl stays) (λ both. inr (both-kept g h k j t.same t.kept both)) (s.each j old low within))
        (λ e. inr (subst (λ z. AreBoth h k z) e (done (subst (λ z. k < z) (sym e) low) (subst (λ z. z < length edge) (sym e) within))))
        (cases j has);
    from = λ j has. to-more j (s.from j has);
  }

  -- it stays open
  pub sifts-open : slice_index edge row ≡ k + 1 → Sifts f h k edge (take (i + 1) rows) (kept ++ row ∷ [])
  sifts-open is = record {
    same = same';
    kept = kept';
    only = only';
    each = λ j has low within. ⊎_elim
        (λ old. ⊎_elim (λ stays. inl (Contains-append_left kept (row ∷ []) j stays.0, stays.1))
        (λ both. inr (both-kept g h k j t.same t.kept both)) (s.each j old low within))
        (λ e. inl (subst (λ z. Contains (kept ++ row ∷ []) z) e (Contains-push kept row), subst (λ z. slice_index edge z ≡ k + 1) e is))
        (cases j has);
    from = λ j has. ⊎_elim (λ old. to-more j (s.from j old)) (λ e. subst (λ z. Contains (take (i + 1) rows) z) e last)
        (Contains-push_cases kept row j has);
  }

-- the rows of a block, with one more
pub opened-next : (k end row : ℕ) (rows : List ℕ) → row < end → k < row
    → ((j : ℕ) → k < j → j < row → Contains rows j) × ((j : ℕ) → Contains rows j → j < end) × (row ≤ end)
    → ((j : ℕ) → k < j → j < row + 1 → Contains (rows ++ row ∷ []) j) × ((j : ℕ) → Contains (rows ++ row ∷ []) j → j < end)
    × (row + 1 ≤ end)
opened-next k end row rows low behind h = (
  (λ j a b. ⊎_elim (λ e. subst (λ z. Contains (rows ++ row ∷ []) z) (sym e) (Contains-push rows row))
      (λ ne. Contains-append_left rows (row ∷ []) j (h.0 j a (omega (arith, b, ne)))) (cases_eq j row)),
  (λ j has. ⊎_elim (λ old. h.1 j old) (λ e. subst (λ z. z < end) e low) (Contains-push_cases rows row j has)),
  omega (arith, low),
)

-- and then those below it
pub opened-all : (k end : ℕ) (rows below : List ℕ) → ((j : ℕ) → k < j → j < end → Contains rows j)
    → ((j : ℕ) → Contains rows j → j < end) → AreOpened k end below (rows ++ below)
opened-all k end rows below all only = record {
  all = λ j is. ⊎_elim (λ low. Contains-append_left rows below j (all j is.0 low)) (λ has. Contains-append_right rows below j has) is.1;
  only = λ j has. ⊎_elim (λ old. inl (only j old)) (λ new. inr new) (Contains-append_cases rows below j has);
}

-- rows that were opened, or were ready, are ready
pub ready-opened : {A : Type 0} (g : Grid A) (n k end : ℕ) (below rows : List ℕ) → AreOpened k end below rows
    → IsReady g n k end below rows
ready-opened g n k end below rows opened = record {
  covers = λ j low is. inl (opened.all j is);
  from = opened.only;
}

-- a column whose rows are sifted
pub column-adds : {A : Type 0} (g h : Grid A) (n k end : ℕ) (below later edge rows kept : List ℕ) → length edge ≡ n → k < n
    → ((j : ℕ) → j < n → (slice_index edge j ≡ k + 1) ↔ Contains later j) → IsReady g n k end below rows
    → Sifts g h k edge rows kept → AddsFill g h n (IsColumnFill k end below later)
column-adds g h n k end below later edge rows kept room low stamped ready s = record {
  same = s.same;
  kept = s.kept;
  all = λ c j c-low j-low fill.
      let is : IsBelow k end below j = fill.1.0 in
      let both : AreBoth h k j = ⊎_elim
      (λ opened. ⊎_elim (λ stays. absurd (fill.1.1 ((stamped j j-low).0 stays.1))) (λ b. b)
      (s.each j opened is.0 (omega (arith, j-low, room))))
      (λ b. both-kept g h k j s.same s.kept b) (ready.covers j j-low is) in
      subst (λ z. AreBoth h z j) (sym fill.0) both;
  only = λ cell some. ⊎_elim (λ old. inl old)
      (λ new. (let loose = new.2 in inr (
        k,
        new.0,
        (
          refl,
          (
            (loose.0, ready.from new.0 new.1),
            (λ has. loose.2 ((stamped new.0 (let l = loose.1 in omega (arith, l, room))).1 has)),
          ),
        ),
        new.3,
      )))
      (s.only cell some);
}

-- the rows of the next column, in the same column of cells
pub ready-next : {A : Type 0} (g h : Grid A) (n k end : ℕ) (below edge rows kept : List ℕ) → length edge ≡ n
    → (k + 1) / max g.step 1 ≡ k / max g.step 1 → IsReady g n k end below rows → Sifts g h k edge rows kept
    → IsReady h n (k + 1) end below kept
ready-next g h n k end below edge rows kept room column ready s = record {
  covers = λ j low is.
      let one : (k + 1) / max h.step 1 ≡ k / max h.step 1 =
      subst (λ z. (k + 1) / max z 1 ≡ k / max z 1) (sym s.same.step) column in
      let moved : AreBoth h k j → AreBoth h (k + 1) j = λ b. (
        subst (λ z. slice_index h.marks.items (j / max h.step 1 * h.side + z) ≢ 0) (sym one) b.0,
        subst (λ z. slice_index h.marks.items (z * h.side + j / max h.step 1) ≢ 0) (sym one) b.1,
      ) in
      let before : IsBelow k end below j = ((let a = is.0 in omega (arith, a)), is.1) in
      ⊎_elim
      (λ opened. ⊎_elim (λ stays. inl stays.0) (λ b. inr (moved b)) (s.each j opened before.0 (omega (arith, low, room))))
      (λ b. inr (moved (both-kept g h k j s.same s.kept b))) (ready.covers j low before);
  from = λ j has. ready.from j (s.from j has);
}
