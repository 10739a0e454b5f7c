-- The numbers on the lines of a Harwell-Boeing file, and the entries that they stand for.
use Rattle.std.proofs.Common.{◌≡◌, ◌+◌, ◌-◌, ◌<◌, ◌≤◌, ℕ, zero, suc, List, [], ◌∷◌, ◌++◌, length, take, drop, get_or}
use Rattle.std.proofs.Common.{length-append, append-nil, append_assoc, refl, sym, ap, ◌∙◌, subst, arith}
use Rattle.std.specs.Prelude.{◌==◌, ◌||◌, Bool, true, false, flat_map, All, slice_range, min, Option, Some, None, IfSome, MatchOption}
use Rattle.std.specs.Char.{to_ascii_lowercase}
use Rattle.std.proofs.lemmas.Bool.{eqb-true}
use Rattle.amd_lines.specs.Words.{words}
use Rattle.std.proofs.lemmas.Grind.{flat_map-append}
use Rattle.std.proofs.lemmas.List.Elements.{All-append, All-take, All-drop, All-map, All-cons, All-weaker}
use Rattle.amd_market.specs.Headers.{pairs_of}
use Rattle.amd_market.specs.Boeing.{is_whole_letter, SpellsCounts, SpellsField, SpellsFields, SpellsTable, ArePointers}
use Rattle.amd_market.specs.Boeing.{FillsLines, SpellsLine, behind_fields}
use Rattle.amd_market.specs.declared.formats.Fields.{Fields}
use Rattle.amd_market.specs.Boeing.{listed_entries, column_entries}
use Rattle.amd_market.proofs.EntryLemmas.{Inside, entries-inside}
use Rattle.amd_market.specs.declared.headers.Symmetry.{Symmetry}
use Rattle.std.specs.Io.BufRead.{take_through}
use Rattle.amd_lines.specs.Lines.{TakesLine, TakesLines, TookLine, line_of, rest_of}
use Rattle.amd_lines.proofs.LineLemmas.{takes-one}
use Rattle.amd_market.specs.Stops.{LacksCounts}
use Rattle.amd_lines.specs.declared.lines.LineReader.{LineReader}

-- a front or a back of a list whose length may be less
pub take-least : (w : ℕ) (xs : List ℕ) → take (min w (length xs)) xs ≡ take w xs
take-least zero xs = let e : min 0 (length xs) ≡ 0 = omega arith in rw e refl
take-least (suc w) [] = let e : min (suc w) 0 ≡ 0 = omega arith in rw e refl
take-least (suc w) (x ∷ xs) =
    let e : min (suc w) (suc (length xs)) ≡ suc (min w (length xs)) = omega arith in rw e (ap (λ z. x ∷ z) (take-least w xs))

pub drop-least : (w : ℕ) (xs : List ℕ) → drop (min w (length xs)) xs ≡ drop w xs
drop-least zero xs = let e : min 0 (length xs) ≡ 0 = omega arith in rw e refl
drop-least (suc w) [] = let e : min (suc w) 0 ≡ 0 = omega arith in rw e refl
drop-least (suc w) (x ∷ xs) =
    let e : min (suc w) (suc (length xs)) ≡ suc (min w (length xs)) = omega arith in rw e (drop-least w xs)

-- the letter of a format, and what stands on both sides of a place
pub low-letter : (b : ℕ) → is_whole_letter b ≡ true → to_ascii_lowercase b ≡ 105
low-letter b h = at (b == 105) (b == 73) refl refl h
  where
    at : (x y : Bool) → (b == 105) ≡ x → (b == 73) ≡ y → (x || y) ≡ true → to_ascii_lowercase b ≡ 105
    at true y p q r = let e : b ≡ 105 = eqb-true b 105 p in rw e refl
    at false true p q r = let e : b ≡ 73 = eqb-true b 73 q in rw e refl
    at false false p q r = cc

pub split-at : (xs : List ℕ) (k d : ℕ) → k < length xs → xs ≡ take k xs ++ get_or xs k d ∷ drop (k + 1) xs
split-at [] k d h = absurd (omega arith)
split-at (x ∷ xs) zero d h = refl
split-at (x ∷ xs) (suc k) d h = let e : suc k + 1 ≡ suc (k + 1) = omega arith in rw e (ap (λ z. x ∷ z) (split-at xs k d (omega arith)))

-- one field more
pub fields-turn : (width bound : ℕ) (line left field rest more ks : List ℕ) (k : ℕ) → field ≡ take width left → rest ≡ drop width left →
    ((js : List ℕ) → SpellsFields width bound left js → SpellsFields width bound line (more ++ js)) → SpellsField field bound k →
    SpellsFields width bound rest ks → SpellsFields width bound line ((more ++ k ∷ []) ++ ks)
fields-turn width bound line left field rest more ks k front back so_far one h =
    rw append_assoc (so_far (k ∷ ks) (subst (λ z. SpellsField z bound k) front one, subst (λ z. SpellsFields width bound z ks) back h))

-- one line more
pub table-turn : (f : Fields) (bound count : ℕ) (ls ms : List (List ℕ)) (line : List ℕ) (numbers more ks : List ℕ) →
    length numbers < count →
    ((ns : List (List ℕ)) → (js : List ℕ) → SpellsTable f bound (count - length numbers) ns js →
    SpellsTable f bound count (ls ++ ns) (numbers ++ js)) →
    length more ≡ min f.per_line (count - length numbers) → SpellsLine f bound line more →
    SpellsTable f bound (count - length (numbers ++ more)) ms ks →
    SpellsTable f bound count ((ls ++ line ∷ []) ++ ms) ((numbers ++ more) ++ ks)
table-turn f bound count ls ms line numbers more ks room so_far size fields h =
    let l = length-append numbers more in
    let left : count - length (numbers ++ more) ≡ (count - length numbers) - min f.per_line (count - length numbers) =
    omega (arith, l, size) in
    let table = subst (λ z. SpellsTable f bound z ms ks) left h in
    rw (append_assoc ls (line ∷ []) ms, append_assoc numbers more ks)
    (so_far (line ∷ ms) (more ++ ks) (record {
      some = omega arith;
      here = more;
      behind = ks;
      are = refl;
      size = size;
      fields = fields;
      rest = table;
    }))

-- all lines
pub table-whole : (f : Fields) (bound count : ℕ) (ls : List (List ℕ)) (numbers : List ℕ) → count - length numbers ≡ 0 →
    ((ns : List (List ℕ)) → (js : List ℕ) → SpellsTable f bound (count - length numbers) ns js →
    SpellsTable f bound count (ls ++ ns) (numbers ++ js)) → SpellsTable f bound count ls numbers
table-whole f bound count ls numbers none so_far =
    let P : List (List ℕ) → Type 0 = λ z. SpellsTable f bound count z (numbers ++ []) in
    subst (λ z. SpellsTable f bound count ls z) (append-nil numbers) (subst P (append-nil ls) (so_far [] [] (none, refl)))

-- how many numbers stand on the lines, and that none is too large
pub table-size : (f : Fields) (bound count : ℕ) (ls : List (List ℕ)) (ks : List ℕ) → SpellsTable f bound count ls ks →
    length ks ≡ count
table-size f bound count [] ks h = ap length h.1 ∙ sym h.0
table-size f bound count (l ∷ ls) ks h =
    let size = h.size in
    let rest = table-size f bound (count - min f.per_line count) ls h.behind h.rest in
    let both = length-append h.here h.behind in
    ap length h.are ∙ omega (arith, both, size, rest)

fields-within : (width bound : ℕ) (text ks : List ℕ) → SpellsFields width bound text ks → All (λ k. k < bound) ks
fields-within width bound text [] h = λ i d x. absurd (omega arith)
fields-within width bound text (k ∷ ks) h =
    let field = h.0 in
    All-cons (λ k. k < bound) k ks field.1.1.0 (fields-within width bound (drop width text) ks h.1)

pub table-within : (f : Fields) (bound count : ℕ) (ls : List (List ℕ)) (ks : List ℕ) → SpellsTable f bound count ls ks →
    All (λ k. k < bound) ks
table-within f bound count [] ks h = subst (λ z. All (λ k. k < bound) z) (sym h.1) (λ i d x. absurd (omega arith))
table-within f bound count (l ∷ ls) ks h =
    subst (λ z. All (λ k. k < bound) z) (sym h.are) (All-append (λ k. k < bound) h.here h.behind
    (fields-within f.width bound (drop f.skipped l) h.here h.fields)
    (table-within f bound (count - min f.per_line count) ls h.behind h.rest))

-- the rows of one column more
pub column-more : (s : Symmetry) (rows : List ℕ) (i j d : ℕ) → i < length rows →
    flat_map (pairs_of s) (column_entries (take (i + 1) rows) j) ≡
    flat_map (pairs_of s) (column_entries (take i rows) j) ++ pairs_of s (get_or rows i d, j)
column-more s [] i j d h = absurd (omega arith)
column-more s (r ∷ rows) zero j d h = append-nil (pairs_of s (r, j))
column-more s (r ∷ rows) (suc i) j d h =
    let e : suc i + 1 ≡ suc (i + 1) = omega arith in rw e (ap (λ z. pairs_of s (r, j) ++ z) (column-more s rows i j d (omega arith)) ∙
    sym (append_assoc (pairs_of s (r, j)) (flat_map (pairs_of s) (column_entries (take i rows) j)) (pairs_of s (get_or rows i d, j))))

-- pointers rise up to the last one
pub pointers-rise : (n entries : ℕ) (ps : List ℕ) (j k : ℕ) → ArePointers n entries ps → j + k ≤ n →
    get_or ps j 0 ≤ get_or ps (j + k) 0
pointers-rise n entries ps j zero h l = let e : j + 0 ≡ j = omega arith in rw e (omega arith)
pointers-rise n entries ps j (suc k) h l =
    let so_far = pointers-rise n entries ps j k h (omega arith) in
    let next = h.rising (j + k) (omega arith) in
    let e : j + suc k ≡ (j + k) + 1 = omega arith in
    rw e (omega (arith, so_far, next))

pub pointer-within : (n entries : ℕ) (ps : List ℕ) (j : ℕ) → ArePointers n entries ps → j ≤ n → get_or ps j 0 ≤ entries
pointer-within n entries ps j h l =
    let e : j + (n - j) ≡ n = omega arith in
    let up = pointers-rise n entries ps j (n - j) h (omega arith) in
    let top = rw e at up in omega (arith, top, h.last)

-- the entries lie in the matrix
listed-inside : (n : ℕ) (ps rows : List ℕ) (k : ℕ) → All (λ i. i < n) rows → k ≤ n → All {X = ℕ × ℕ} (Inside n) (listed_entries ps rows k)
listed-inside n ps rows zero h l = λ i d x. absurd (omega arith)
listed-inside n ps rows (suc j) h l =
    let own = slice_range rows (get_or ps j 0) (get_or ps (j + 1) 0) in
    All-append {X = ℕ × ℕ} (Inside n) (listed_entries ps rows j) (column_entries own j)
    (listed-inside n ps rows j h (omega arith))
    (All-map {X = ℕ × ℕ} (Inside n) (λ i. (i, j)) own (All-weaker (λ i. i < n) (λ i. Inside n (i, j)) (λ i x. (x, omega arith)) own
    (All-take (λ i. i < n) (get_or ps (j + 1) 0 - get_or ps j 0) (drop (get_or ps j 0) rows)
    (All-drop (λ i. i < n) (get_or ps j 0) rows h))))

pub boeing-inside : (n : ℕ) (s : Symmetry) (ps rows : List ℕ) → All (λ i. i < n) rows →
    All {X = ℕ × ℕ} (Inside n) (flat_map (pairs_of s) (listed_entries ps rows n))
boeing-inside n s ps rows h = entries-inside n s (listed_entries ps rows n) (listed-inside n ps rows n h (omega arith))

-- what the second line spells, where it spells anything
pub sides-line : {R Z : Type 0} (remaining : R → Option (List ℕ)) (a b : LineReader R Z) (o : Option ℕ) → TakesLine remaining a b true →
    MatchOption o ((k : ℕ) → SpellsCounts (words (line_of b)) k → ⊥) (SpellsCounts (words (line_of b))) →
    MatchOption o (LacksCounts (rest_of remaining a)) (λ sides. (line : List ℕ) × TakesLines remaining a b (line ∷ []) ×
    SpellsCounts (words line) sides)
sides-line remaining a b None h none = known (rest_of remaining a) h.took
  where
    known : (o : Option (List ℕ)) → IfSome o (λ bytes. TookLine bytes (line_of b) (rest_of remaining b) true) → LacksCounts o
    known None k = tt
    known (Some bytes) k = λ sides spells. none sides (subst (λ z. SpellsCounts (words z) sides) (sym k.1) spells)
sides-line remaining a b (Some sides) h spells = (line_of b, takes-one remaining a b h, spells)

-- no line is left
pub sides-end : {R Z : Type 0} (remaining : R → Option (List ℕ)) (a b : LineReader R Z) → TakesLine remaining a b false →
    LacksCounts (rest_of remaining a)
sides-end remaining a b h = known (rest_of remaining a) h.took
  where
    no-words : (sides : ℕ) → SpellsCounts [] sides → ⊥
    no-words sides k = let e = k.parts in cc

    known : (o : Option (List ℕ)) → IfSome o (λ bytes. TookLine bytes (line_of b) (rest_of remaining b) false) → LacksCounts o
    known None k = tt
    known (Some bytes) k = λ sides spells. no-words sides (subst (λ z. SpellsCounts (words (take_through 10 z)) sides) k.0 spells)

-- numbers that fill lines, and those of one line more
pub fills-more : (f : Fields) (bound : ℕ) (ls : List (List ℕ)) (ks : List ℕ) (line : List ℕ) (more : List ℕ) →
    FillsLines f bound ls ks → length more ≡ f.per_line → SpellsLine f bound line more →
    FillsLines f bound (ls ++ line ∷ []) (ks ++ more)
fills-more f bound [] ks line more h size fields =
    subst (λ z. FillsLines f bound (line ∷ []) (z ++ more)) (sym h)
    (more, [], sym (append-nil more), size, fields, refl)
fills-more f bound (l ∷ ls) ks line more h size fields =
    let here = h.0 in
    let behind = h.1 in
    let rest = fills-more f bound ls behind line more h.5 size fields in
    (here, behind ++ more, ap (λ z. z ++ more) h.2 ∙ append_assoc here behind more, h.3, h.4, rest)

-- what stands behind the fields of one number more
pub behind-more : (width : ℕ) (text ks : List ℕ) (k : ℕ) →
    behind_fields width text (ks ++ k ∷ []) ≡ drop width (behind_fields width text ks)
behind-more width text [] k = refl
behind-more width text (j ∷ ks) k = behind-more width (drop width text) ks k

-- no number was read
pub table-none : (f : Fields) (bound count : ℕ) (numbers js : List ℕ) (ns : List (List ℕ)) → numbers ≡ [] →
    SpellsTable f bound (count - length numbers) ns js → SpellsTable f bound count ns (numbers ++ js)
table-none f bound count [] js ns e h =
    let same : count - 0 ≡ count = omega arith in subst (λ z. SpellsTable f bound z ns js) same h
table-none f bound count (x ∷ xs) js ns e h = cc

-- the pairs of one column more
pub listed-more : (s : Symmetry) (ps rows own : List ℕ) (old new : List (ℕ × ℕ)) (j : ℕ) →
    old ≡ flat_map (pairs_of s) (listed_entries ps rows j) → own ≡ slice_range rows (get_or ps j 0) (get_or ps (j + 1) 0) →
    new ≡ old ++ flat_map (pairs_of s) (column_entries own j) → new ≡ flat_map (pairs_of s) (listed_entries ps rows (suc j))
listed-more s ps rows own old new j so_far are more =
    let part = slice_range rows (get_or ps j 0) (get_or ps (j + 1) 0) in
    more ∙ ap (λ z. z ++ flat_map (pairs_of s) (column_entries own j)) so_far ∙
    ap (λ z. flat_map (pairs_of s) (listed_entries ps rows j) ++ flat_map (pairs_of s) (column_entries z j)) are ∙
    sym (flat_map-append (pairs_of s) (listed_entries ps rows j) (column_entries part j))
