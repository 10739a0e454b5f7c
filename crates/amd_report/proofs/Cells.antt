-- The cells of a picture: where they are, and which of them have marks.
use Rattle.std.proofs.Common.{◌≡◌, ◌≢◌, ◌+◌, ◌*◌, ◌/◌, ◌%◌, ◌<◌, ◌≤◌, ◌++◌, ⊎_elim, ℕ, suc, List, [], ◌∷◌}
use Rattle.std.proofs.Common.{append-nil, append_assoc, arith, get_or, length, refl, subst, sym, take, ap, ◌∙◌}
use Rattle.std.proofs.lemmas.Bool.{cases_eq}
use Rattle.std.proofs.lemmas.List.{take_more}
use Rattle.std.specs.Prelude.{Bool, true, false, Contains, flat_map, max, min, slice_index}
use Rattle.std.proofs.lemmas.Grind.{flat_map-append}
use Rattle.std.proofs.lemmas.Nat.{div_below, mul-le}
use Rattle.std.proofs.lemmas.Grind.{div_ceil_times}
use Rattle.std.proofs.Math.Nat.{lt_of_mul-lt-mul_right}
use Rattle.std.proofs.lemmas.List.Elements.{Contains-append_left, Contains-push, Contains-push_cases}
use Rattle.amd_report.specs.declared.grids.Grid.{Grid}
use Rattle.amd_report.specs.Grids.{AddsBoth, AddsPlace, HasCells, IsSquareFor, SameCells, ShowsPlaces, cell_of}
use Rattle.amd_report.specs.Grids.{column_places, drawn_places, entry_places, lines_for, rows_in_line}
use Rattle.amd_report.specs.Patterns.{column_rows}

-- a place of so many rows has a cell in a square whose lines cover them
pub cell-inside : (rows step side row column : ℕ) → 0 < step → rows ≤ side * step → row < rows → column < rows
    → row / step * side + column / step < side * side
cell-inside rows step side row column p covers r c =
    let line = div_below row step side p (omega (arith, covers, r)) in
    let cell = div_below column step side p (omega (arith, covers, c)) in
    let whole = mul-le (row / step + 1) side side side (omega (arith, line)) (omega arith) in
    grind (arith, whole, cell)

-- a square with other marks has the same cells
pub same-cell : {A : Type 0} (g h : Grid A) (p : ℕ × ℕ) → SameCells g h → cell_of h p ≡ cell_of g p
same-cell g h p s =
    ap (λ z. p.0 / max z 1 * h.side + p.1 / max z 1) s.step ∙ ap (λ z. p.0 / max g.step 1 * z + p.1 / max g.step 1) s.side

-- one place more
pub shows-next : {A : Type 0} (g h : Grid A) (places : List (ℕ × ℕ)) (p : ℕ × ℕ) → ShowsPlaces g places → AddsPlace g h p
    → ShowsPlaces h (places ++ p ∷ [])
shows-next g h places p s a = record {
  marked = λ q has inside.
      let at = same-cell g h q a.same in
      let within : cell_of g q < length g.marks.items = rw (at, a.same.cells) at inside in
      let here : cell_of g q ≡ cell_of g p → slice_index h.marks.items (cell_of g q) ≢ 0 =
      λ e. subst (λ z. slice_index h.marks.items z ≢ 0) (sym e) (a.marked (subst (λ z. z < length g.marks.items) e within)) in
      let there : cell_of g q ≢ cell_of g p → slice_index h.marks.items (cell_of g q) ≢ 0 =
      λ n. subst (λ z. z ≢ 0) (sym (a.others (cell_of g q) n))
      (⊎_elim (λ old. s.marked q old within) (λ new. absurd (n (ap (cell_of g) (sym new)))) (Contains-push_cases places p q has)) in
      subst (λ z. slice_index h.marks.items z ≢ 0) (sym at) (⊎_elim here there (cases_eq (cell_of g q) (cell_of g p)));
  only = λ cell full.
      let here : cell ≡ cell_of g p → (q : ℕ × ℕ) × Contains (places ++ p ∷ []) q × (cell_of h q ≡ cell) =
      λ e. (p, Contains-push places p, same-cell g h p a.same ∙ sym e) in
      let there : cell ≢ cell_of g p → (q : ℕ × ℕ) × Contains (places ++ p ∷ []) q × (cell_of h q ≡ cell) =
      λ n. let found = s.only cell (subst (λ z. z ≢ 0) (a.others cell n) full) in
      (found.0, Contains-append_left places (p ∷ []) found.0 found.1, same-cell g h found.0 a.same ∙ found.2) in
      ⊎_elim here there (cases_eq cell (cell_of g p));
}

-- the same cells, after two steps
pub cells-then : {A : Type 0} (f g h : Grid A) → SameCells f g → SameCells g h → SameCells f h
cells-then f g h s t = record {
  step = t.step ∙ s.step;
  side = t.side ∙ s.side;
  cells = t.cells ∙ s.cells;
}

-- a square whose lines cover the rows, with a cell for each of two lines
pub covers-from : {A : Type 0} (g : Grid A) (rows : ℕ) → 0 < g.step → rows ≤ g.side * g.step
    → length g.marks.items ≡ g.side * g.side → HasCells g rows
covers-from g rows p covers cells row column r c =
    let one : max g.step 1 ≡ g.step = omega (arith, p) in
    subst (λ z. row / z * g.side + column / z < length g.marks.items) (sym one)
    (subst (λ z. row / g.step * g.side + column / g.step < z) (sym cells) (cell-inside rows g.step g.side row column p covers r c))

-- no more lines than the width, so that their square is no more than its square
pub lines-within : (rows width step : ℕ) → 0 < width → step ≡ max (rows / width + min 1 (rows % width)) 1
    → (rows / step + min 1 (rows % step)) * step < rows + step → rows / step + min 1 (rows % step) ≤ width
lines-within rows width step w is below =
    let side : ℕ = rows / step + min 1 (rows % step) in
    let wide = (div_ceil_times rows width w).0 in
    let least : rows / width + min 1 (rows % width) ≤ step = omega (arith, is) in
    let some : 0 < step = omega (arith, is) in
    let covered : (rows / width + min 1 (rows % width)) * width ≤ step * width = mul-le _ _ _ _ least (omega arith) in
    let product : side * step < (width + 1) * step = grind (arith, wide, covered, below) in
    omega (arith, lt_of_mul-lt-mul_right step product)

-- a square for n rows has so many cells as its number of 64 bits tells, and they cover the rows
pub square-of : {A : Type 0} (g : Grid A) (n : ℕ) → g.step ≡ rows_in_line n → g.side ≡ lines_for n
    → length g.marks.items ≡ min (g.side * g.side) 18446744073709551615 → IsSquareFor g n
square-of g n s d l =
    let some : 0 < rows_in_line n = omega arith in
    let bounds = div_ceil_times n (rows_in_line n) some in
    let narrow : lines_for n ≤ 400 = lines-within n 400 (rows_in_line n) (omega arith) refl bounds.1 in
    let product = mul-le (lines_for n) (lines_for n) 400 400 narrow narrow in
    let whole = subst (λ z. length g.marks.items ≡ min (z * z) 18446744073709551615) d l in record {
      step = s;
      side = d;
      cells = omega (arith, whole, product);
    }

pub square-covers : {A : Type 0} (g : Grid A) (n : ℕ) → IsSquareFor g n → HasCells g n
square-covers g n s =
    let some : 0 < rows_in_line n = omega arith in
    let bounds = div_ceil_times n (rows_in_line n) some in
    let low : n ≤ lines_for n * g.step = subst (λ z. n ≤ lines_for n * z) (sym s.step) bounds.0 in
    covers-from g n (subst (λ z. 0 < z) (sym s.step) some) (subst (λ z. n ≤ z * g.step) (sym s.side) low)
    (subst (λ z. length g.marks.items ≡ z * z) (sym s.side) s.cells)

pub square-same : {A : Type 0} (g h : Grid A) (n : ℕ) → SameCells g h → IsSquareFor g n → IsSquareFor h n
square-same g h n s q = record {
  step = s.step ∙ q.step;
  side = s.side ∙ q.side;
  cells = s.cells ∙ q.cells;
}

-- other marks cover as many rows
pub covers-same : {A : Type 0} (g h : Grid A) (n : ℕ) → SameCells g h → HasCells g n → HasCells h n
covers-same g h n s covers row column r c =
    subst (λ z. cell_of h (row, column) < z) (sym s.cells)
    (subst (λ z. z < length g.marks.items) (sym (same-cell g h (row, column) s)) (covers row column r c))

-- one entry more, with its mirror or without
pub entry-alone : {A : Type 0} (g h : Grid A) (row column : ℕ) → AddsPlace g h (row, column) → (marked : List (ℕ × ℕ)) →
    ShowsPlaces g marked → ShowsPlaces h (marked ++ drawn_places false row column)
entry-alone g h row column a marked s = shows-next g h marked (row, column) s a

pub entry-both : {A : Type 0} (g h : Grid A) (row column : ℕ) → AddsBoth g h row column → (marked : List (ℕ × ℕ)) →
    ShowsPlaces g marked → ShowsPlaces h (marked ++ drawn_places true row column)
entry-both g h row column a marked s =
    subst (ShowsPlaces h) (append_assoc marked ((row, column) ∷ []) ((column, row) ∷ []))
    (shows-next a.between h (marked ++ (row, column) ∷ []) (column, row) (shows-next g a.between marked (row, column) s a.place) a.mirror)

-- the entries in one row of a column more
pub column-next : {A : Type 0} (f g h : Grid A) (mirrored : Bool) (places rows : List ℕ) (column k x place : ℕ) → k < length rows
    → place ≡ slice_index places (get_or rows k x)
    → ((marked : List (ℕ × ℕ)) → ShowsPlaces f marked → ShowsPlaces g (marked ++ column_places mirrored places column (take k rows)))
    → ((marked : List (ℕ × ℕ)) → ShowsPlaces g marked → ShowsPlaces h (marked ++ drawn_places mirrored place column))
    → (marked : List (ℕ × ℕ)) → ShowsPlaces f marked
    → ShowsPlaces h (marked ++ column_places mirrored places column (take (k + 1) rows))
column-next f g h mirrored places rows column k x place inside is so_far one marked s =
    let row : ℕ = get_or rows k x in
    let piece : ℕ → List (ℕ × ℕ) = λ r. drawn_places mirrored (slice_index places r) column in
    let last : flat_map piece (row ∷ []) ≡ piece row = append-nil (piece row) in
    let more : column_places mirrored places column (take (k + 1) rows)
    ≡ column_places mirrored places column (take k rows) ++ drawn_places mirrored place column =
    ap (flat_map piece) (take_more rows k x inside) ∙ flat_map-append piece (take k rows) (row ∷ [])
    ∙ ap (λ z. flat_map piece (take k rows) ++ z) last
    ∙ ap (λ z. flat_map piece (take k rows) ++ drawn_places mirrored z column) (sym is) in
    subst (λ z. ShowsPlaces h (marked ++ z)) (sym more)
    (subst (ShowsPlaces h) (append_assoc marked (column_places mirrored places column (take k rows)) (drawn_places mirrored place column))
    (one (marked ++ column_places mirrored places column (take k rows)) (so_far marked s)))

-- the entries of one column more
pub places-next : {A : Type 0} (g h : Grid A) (mirrored : Bool) (places ap_ ai rows : List ℕ) (k column : ℕ) →
    rows ≡ column_rows ap_ ai k → column ≡ slice_index places k → ShowsPlaces g (entry_places mirrored places ap_ ai k)
    → ((marked : List (ℕ × ℕ)) → ShowsPlaces g marked → ShowsPlaces h (marked ++ column_places mirrored places column rows))
    → ShowsPlaces h (entry_places mirrored places ap_ ai (k + 1))
places-next g h mirrored places ap_ ai rows k column r is so_far one =
    let step : k + 1 ≡ suc k = omega arith in
    subst (λ m. ShowsPlaces h (entry_places mirrored places ap_ ai m)) (sym step)
    (subst (λ z. ShowsPlaces h (entry_places mirrored places ap_ ai k ++ column_places mirrored places z (column_rows ap_ ai k))) is
    (subst (λ z. ShowsPlaces h (entry_places mirrored places ap_ ai k ++ column_places mirrored places column z)) r
    (one (entry_places mirrored places ap_ ai k) so_far)))
