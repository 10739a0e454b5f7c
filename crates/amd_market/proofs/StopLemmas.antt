-- Where the reading of a part stopped, seen from the parts before it.
use Rattle.std.proofs.Common.{◌≡◌, ◌+◌, ◌-◌, ◌<◌, ◌≤◌, ℕ, zero, suc, List, [], ◌∷◌, ◌++◌, length, length-append, Option, refl, sym, ap}
use Rattle.std.proofs.Common.{◌⊎◌, inl, inr, ◌∙◌, subst, append_assoc, append-nil, arith}
use Rattle.std.specs.Prelude.{min}
use Rattle.amd_lines.specs.Lines.{telling, percent}
use Rattle.amd_market.specs.Arrays.{array_places, column_places, first_row}
use Rattle.amd_market.specs.Files.{TakesEntries, TakesValues}
use Rattle.amd_market.specs.Stops.{Stop, after, EntryStops, ValueStops, EntriesStop, ValuesStop}
use Rattle.amd_market.specs.Faults.{HasLineFault, IsOfMachine}
use Rattle.amd_market.specs.Stops.{CardStops, at_line}
use Rattle.amd_market.specs.Stops.{TableStop, PointersStop, ColumnsStop, in_table, behind_table, in_pointers, in_rows}
use Rattle.amd_market.specs.declared.headers.Field.{Field}
use Rattle.amd_market.specs.declared.headers.Header.{Header}
use Rattle.amd_market.specs.declared.headers.Symmetry.{Symmetry}
use Rattle.amd_market.specs.declared.formats.Fields.{Fields}
use Rattle.amd_market.specs.declared.formats.Layout.{Layout}
use Rattle.amd_market.specs.declared.cards.Kind.{Kind}
use Rattle.amd_market.specs.declared.fields.Listed.{Listed}
use Rattle.amd_market.proofs.FaultLemmas.{all-more, says-first, says-more}
use Rattle.amd_market.proofs.ArrayLemmas.{spells-append}
use Rattle.amd_lines.specs.declared.lines.LineReader.{LineReader}
use Rattle.amd_market.specs.declared.faults.ReadFault.{ReadFault}
use Rattle.amd_market.specs.declared.faults.ReadFault.TheVariants as fault

-- a stop at an entry, behind those that were read
pub entry-behind : {R Z : Type 0} (remaining : R → Option (List ℕ)) (a b : LineReader R Z) (header : Header) (n k told : ℕ)
    (ps : List (ℕ × ℕ)) (read : TakesEntries remaining a b header n k ps) (s : Stop) → k < told → EntryStops header.field n k told [] s →
    EntriesStop header.field n told [] (after read.lines s)
entry-behind remaining a b header n k told ps read s few h = record {
  lines = telling percent read.lines;
  entries = read.entries;
  spells = read.spells;
  few = (let c = read.counted in omega (arith, c, few));
  stops = subst (λ z. EntryStops header.field n z told (telling percent read.lines) (after read.lines s)) (sym read.counted)
      (says-first read.lines (telling percent read.lines) s refl h);
}

-- a stop among the entries, behind other lines
pub entries-behind-lines : (field : Field) (n told : ℕ) (ls before : List (List ℕ)) (s : Stop) → telling percent ls ≡ before →
    EntriesStop field n told [] s → EntriesStop field n told before (after ls s)
entries-behind-lines field n told ls before s tells h = record {
  lines = h.lines;
  entries = h.entries;
  spells = h.spells;
  few = h.few;
  stops = says-more ls before h.lines s tells h.stops;
}

-- a stop at the value of one place
pub value-alone : (field : Field) (place : ℕ × ℕ) (s : Stop) → ValueStops field place [] s → ValuesStop field (place ∷ []) [] s
value-alone field place s h = record {
  lines = [];
  flags = [];
  spells = tt;
  done = [];
  place = place;
  others = [];
  parts = refl;
  counted = refl;
  stops = h;
}

-- a stop among the values of some places, behind those of others
pub values-behind : {R Z : Type 0} (remaining : R → Option (List ℕ)) (a b : LineReader R Z) (header : Header)
    (xs ys zs all ps qs : List (ℕ × ℕ)) (read : TakesValues remaining a b header xs ps qs) (s : Stop) → all ≡ (xs ++ ys) ++ zs →
    ValuesStop header.field ys [] s → ValuesStop header.field all [] (after read.lines s)
values-behind remaining a b header xs ys zs all ps qs read s are h = record {
  lines = telling percent read.lines ++ h.lines;
  flags = read.flags ++ h.flags;
  spells = spells-append header.field (telling percent read.lines) h.lines read.flags h.flags read.spells h.spells;
  done = xs ++ h.done;
  place = h.place;
  others = h.others ++ zs;
  parts = are ∙ ap (λ z. (xs ++ z) ++ zs) h.parts ∙ ap (λ z. z ++ zs) (sym (append_assoc xs h.done (h.place ∷ h.others))) ∙
      append_assoc (xs ++ h.done) (h.place ∷ h.others) zs;
  counted = length-append read.flags h.flags ∙ ap (λ z. z + length h.flags) read.counted ∙ ap (λ z. length xs + z) h.counted ∙
      sym (length-append xs h.done);
  stops = says-more read.lines (telling percent read.lines) h.lines s refl h.stops;
}

-- a stop among values, behind other lines
pub values-behind-lines : (field : Field) (places : List (ℕ × ℕ)) (ls before : List (List ℕ)) (s : Stop) → telling percent ls ≡ before →
    ValuesStop field places [] s → ValuesStop field places before (after ls s)
values-behind-lines field places ls before s tells h = record {
  lines = h.lines;
  flags = h.flags;
  spells = h.spells;
  done = h.done;
  place = h.place;
  others = h.others;
  parts = h.parts;
  counted = h.counted;
  stops = says-more ls before h.lines s tells h.stops;
}

-- the places of a column begin with those of its first rows
column-front : (first j k m : ℕ) → (zs : List (ℕ × ℕ)) × (column_places first j (m + k) ≡ column_places first j k ++ zs)
column-front first j k zero =
    let e : 0 + k ≡ k = omega arith in ([], ap (column_places first j) e ∙ sym (append-nil (column_places first j k)))
column-front first j k (suc m) =
    let rest = column-front first j k m in
    let e : suc m + k ≡ suc (m + k) = omega arith in (
      rest.0 ++ (first + (m + k), j) ∷ [],
      ap (column_places first j) e ∙ ap (λ z. z ++ (first + (m + k), j) ∷ []) rest.1
          ∙ append_assoc (column_places first j k) rest.0 ((first + (m + k), j) ∷ []),
    )

pub column-split : (first j row n : ℕ) → first ≤ row → row < n →
    (zs : List (ℕ × ℕ)) × (column_places first j (n - first) ≡ (column_places first j (row - first) ++ (row, j) ∷ []) ++ zs)
column-split first j row n low high =
    let front = column-front first j (suc (row - first)) (n - (row + 1)) in
    let whole : (n - (row + 1)) + suc (row - first) ≡ n - first = omega (arith, low, high) in
    let here : first + (row - first) ≡ row = omega (arith, low) in (
      front.0,
      sym (ap (column_places first j) whole) ∙ front.1
          ∙ ap (λ z. (column_places first j (row - first) ++ (z, j) ∷ []) ++ front.0) here,
    )

-- the places of an array begin with those of its first columns
array-front : (t : Symmetry) (n k m : ℕ) → (zs : List (ℕ × ℕ)) × (array_places t n (m + k) ≡ array_places t n k ++ zs)
array-front t n k zero = let e : 0 + k ≡ k = omega arith in ([], ap (array_places t n) e ∙ sym (append-nil (array_places t n k)))
array-front t n k (suc m) =
    let rest = array-front t n k m in
    let last = column_places (first_row t (m + k)) (m + k) (n - first_row t (m + k)) in
    let e : suc m + k ≡ suc (m + k) = omega arith in (
      rest.0 ++ last,
      ap (array_places t n) e ∙ ap (λ z. z ++ last) rest.1 ∙ append_assoc (array_places t n k) rest.0 last,
    )

pub array-split : (t : Symmetry) (n j : ℕ) → j < n →
    (zs : List (ℕ × ℕ)) × (array_places t n n ≡ (array_places t n j ++ column_places (first_row t j) j (n - first_row t j)) ++ zs)
array-split t n j within =
    let front = array-front t n (suc j) (n - (j + 1)) in
    let whole : (n - (j + 1)) + suc j ≡ n = omega (arith, within) in
    (front.0, sym (ap (array_places t n) whole) ∙ front.1)

-- a stop among numbers, behind other lines
pub table-behind : (listed : Listed) (fields : Fields) (count bound : ℕ) (ls before : List (List ℕ)) (s : Stop) →
    TableStop listed fields count bound before s → TableStop listed fields count bound (ls ++ before) (after ls s)
table-behind listed fields count bound ls before s h = record {
  lines = h.lines;
  numbers = h.numbers;
  full = h.full;
  few = h.few;
  stops = subst (λ z. CardStops (HasLineFault listed fields (min fields.per_line (count - length h.numbers)) bound) z (after ls s))
      (sym (append_assoc ls before h.lines)) (all-more ls (before ++ h.lines) s h.stops);
}

pub table-first : (listed : Listed) (fields : Fields) (count bound : ℕ) (ls : List (List ℕ)) (s : Stop) →
    TableStop listed fields count bound [] s → TableStop listed fields count bound ls (after ls s)
table-first listed fields count bound ls s h =
    subst (λ z. TableStop listed fields count bound z (after ls s)) (append-nil ls) (table-behind listed fields count bound ls [] s h)

pointers-behind : (k : Kind) (fields : Fields) (ls before : List (List ℕ)) (s : Stop) → PointersStop k fields before s →
    PointersStop k fields (ls ++ before) (after ls s)
pointers-behind k fields ls before s (in_table h) = in_table (table-behind _ fields _ _ ls before s h)
pointers-behind k fields ls before s (behind_table lines pointers spells none told are) =
    behind_table lines pointers spells none told (ap (λ z. ls ++ z) are ∙ sym (append_assoc ls before lines))

pub columns-behind : (k : Kind) (l : Layout) (ls : List (List ℕ)) (s : Stop) → ColumnsStop k l [] s → ColumnsStop k l ls (after ls s)
columns-behind k l ls s (in_pointers h) =
    in_pointers (subst (λ z. PointersStop k l.pointers z (after ls s)) (append-nil ls) (pointers-behind k l.pointers ls [] s h))
columns-behind k l ls s (in_rows lines pointers spells are h) =
    in_rows lines pointers spells are (table-behind _ l.rows _ _ ls lines s h)

-- a fault of the numbers of a line
pub list-stop : (listed : Listed) (fields : Fields) (count bound : ℕ) (f : ReadFault) (line : List ℕ) (rest : Option (List ℕ))
    (longest : ℕ) → (f ≡ fault.OutOfMemory) ⊎ HasLineFault listed fields count bound f line → IsOfMachine f ⊎
    CardStops (HasLineFault listed fields count bound) [] (record { fault = f; lines = line ∷ []; rest = rest; longest = longest })
list-stop listed fields count bound f line rest longest (inl is) = inl (subst IsOfMachine (sym is) tt)
list-stop listed fields count bound f line rest longest (inr has) = inr (at_line [] line refl refl refl has)
