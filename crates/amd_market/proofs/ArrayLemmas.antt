-- The values of an array, read one after another.
use Rattle.std.proofs.Common.{◌≡◌, ◌+◌, ◌-◌, ◌<◌, ◌≤◌, ℕ, zero, suc, Bool, true, false, Option, List, [], ◌∷◌, ◌++◌, length}
use Rattle.std.proofs.Common.{length-append, append-nil, append_assoc, refl, sym, ap, ◌∙◌, subst, arith}
use Rattle.std.specs.Prelude.{flat_map, All}
use Rattle.std.proofs.lemmas.Grind.{flat_map-append}
use Rattle.std.proofs.lemmas.List.Elements.{All-append}
use Rattle.amd_market.specs.Headers.{pairs_of}
use Rattle.amd_market.specs.Arrays.{SpellsValue, SpellsValues, kept, column_places, array_places, first_row}
use Rattle.amd_lines.specs.Lines.{TakesTelling, telling, percent}
use Rattle.amd_market.specs.Files.{TakesValues}
use Rattle.amd_lines.proofs.LineLemmas.{takes-append, takes-none, telling-both}
use Rattle.amd_market.proofs.EntryLemmas.{Inside, all-one, all-others, entries-inside}
use Rattle.amd_market.specs.declared.headers.Field.{Field}
use Rattle.amd_market.specs.declared.headers.Header.{Header}
use Rattle.amd_market.specs.declared.headers.Symmetry.{Symmetry}
use Rattle.amd_market.specs.declared.headers.Symmetry.TheVariants as kind
use Rattle.amd_lines.specs.declared.lines.LineReader.{LineReader}

kept-append : (bs cs : List Bool) (ps qs : List (ℕ × ℕ)) → length bs ≡ length ps → kept (bs ++ cs) (ps ++ qs) ≡ kept bs ps ++ kept cs qs
kept-append [] cs [] qs h = refl
kept-append [] cs (p ∷ ps) qs h = absurd (omega arith)
kept-append (b ∷ bs) cs [] qs h = absurd (omega arith)
kept-append (true ∷ bs) cs (p ∷ ps) qs h = ap (λ z. p ∷ z) (kept-append bs cs ps qs (omega arith))
kept-append (false ∷ bs) cs (p ∷ ps) qs h = kept-append bs cs ps qs (omega arith)

pub spells-append : (field : Field) (ls ms : List (List ℕ)) (bs cs : List Bool) → SpellsValues field ls bs → SpellsValues field ms cs →
    SpellsValues field (ls ++ ms) (bs ++ cs)
spells-append field [] ms [] cs h k = k
spells-append field [] ms (b ∷ bs) cs h k = elim h [ ]
spells-append field (l ∷ ls) ms [] cs h k = elim h [ ]
spells-append field (l ∷ ls) ms (b ∷ bs) cs h k = (h.0, spells-append field ls ms bs cs h.1 k)

-- no value was read
pub values-none : {R Z : Type 0} (remaining : R → Option (List ℕ)) (a : LineReader R Z) (header : Header) (ps : List (ℕ × ℕ)) →
    TakesValues remaining a a header [] ps ps
values-none remaining a header ps = record {
  lines = [];
  takes = takes-none remaining a;
  flags = [];
  counted = refl;
  spells = tt;
  added = sym (append-nil ps);
}

-- two readings in turn are one
pub values-append : {R Z : Type 0} (remaining : R → Option (List ℕ)) (a b c : LineReader R Z) (header : Header)
    (xs ys ps qs rs : List (ℕ × ℕ)) → TakesValues remaining a b header xs ps qs → TakesValues remaining b c header ys qs rs →
    TakesValues remaining a c header (xs ++ ys) ps rs
values-append remaining a b c header xs ys ps qs rs h k = record {
  lines = h.lines ++ k.lines;
  takes = takes-append remaining a b c h.lines k.lines h.takes k.takes;
  flags = h.flags ++ k.flags;
  counted = length-append h.flags k.flags ∙ ap (λ z. z + length k.flags) h.counted ∙ ap (λ z. length xs + z) k.counted ∙
      sym (length-append xs ys);
  spells = subst (λ ls. SpellsValues header.field ls (h.flags ++ k.flags))
      (sym (telling-both percent h.lines k.lines (telling percent h.lines) (telling percent k.lines) refl refl))
      (spells-append header.field (telling percent h.lines) (telling percent k.lines) h.flags k.flags h.spells k.spells);
  added = k.added ∙ ap (λ z. z ++ flat_map (pairs_of header.symmetry) (kept k.flags ys)) h.added ∙
      append_assoc ps (flat_map (pairs_of header.symmetry) (kept h.flags xs)) (flat_map (pairs_of header.symmetry) (kept k.flags ys)) ∙
      ap (λ z. ps ++ z) (sym (flat_map-append (pairs_of header.symmetry) (kept h.flags xs) (kept k.flags ys)) ∙
      ap (flat_map (pairs_of header.symmetry)) (sym (kept-append h.flags k.flags xs ys h.counted)));
}

-- one value was read: it is zero, or the pairs of its place were added
pub value-zero : {R Z : Type 0} (remaining : R → Option (List ℕ)) (a b : LineReader R Z) (header : Header) (line : List ℕ)
    (place : ℕ × ℕ) (ps : List (ℕ × ℕ)) → TakesTelling percent remaining a b line → SpellsValue header.field line false →
    TakesValues remaining a b header (place ∷ []) ps ps
value-zero remaining a b header line place ps h one = record {
  lines = h.lines;
  takes = h.takes;
  flags = false ∷ [];
  counted = refl;
  spells = subst (λ ls. SpellsValues header.field ls (false ∷ [])) (sym h.tells) (one, tt);
  added = sym (append-nil ps);
}

pub value-other : {R Z : Type 0} (remaining : R → Option (List ℕ)) (a b : LineReader R Z) (header : Header) (line : List ℕ)
    (place : ℕ × ℕ) (ps qs : List (ℕ × ℕ)) → TakesTelling percent remaining a b line → SpellsValue header.field line true →
    qs ≡ ps ++ pairs_of header.symmetry place → TakesValues remaining a b header (place ∷ []) ps qs
value-other remaining a b header line place ps qs h one more = record {
  lines = h.lines;
  takes = h.takes;
  flags = true ∷ [];
  counted = refl;
  spells = subst (λ ls. SpellsValues header.field ls (true ∷ [])) (sym h.tells) (one, tt);
  added = more ∙ ap (λ z. ps ++ z) (sym (append-nil (pairs_of header.symmetry place)));
}

-- the place in the next row
pub column-next : (first j row : ℕ) → first ≤ row →
    column_places first j (row - first) ++ (row, j) ∷ [] ≡ column_places first j (row + 1 - first)
column-next first j row h =
    let one : row + 1 - first ≡ suc (row - first) = omega arith in
    let here : first + (row - first) ≡ row = omega arith in
    rw one (ap (λ z. column_places first j (row - first) ++ (z, j) ∷ []) (sym here))

-- no place stands before the first row
pub column-none : (first j : ℕ) → column_places first j (first - first) ≡ []
column-none first j = let none : first - first ≡ zero = omega arith in rw none refl

-- the places of a column lie in the matrix
column-inside : (n first j k : ℕ) → j < n → first + k ≤ n → All {X = ℕ × ℕ} (Inside n) (column_places first j k)
column-inside n first j zero h l = λ i d x. absurd (omega arith)
column-inside n first j (suc k) h l = All-append {X = ℕ × ℕ} (Inside n) (column_places first j k) ((first + k, j) ∷ [])
    (column-inside n first j k h (omega arith)) (all-one n (first + k, j) (omega arith, h))

-- the first row of a column is at most one behind it
pub first-within : (s : Symmetry) (j : ℕ) → first_row s j ≤ j + 1
first-within kind.General j = omega arith
first-within kind.Symmetric j = omega arith
first-within kind.SkewSymmetric j = omega arith
first-within kind.Hermitian j = omega arith

-- so do all places
places-inside : (s : Symmetry) (n k : ℕ) → k ≤ n → All {X = ℕ × ℕ} (Inside n) (array_places s n k)
places-inside s n zero l = λ i d x. absurd (omega arith)
places-inside s n (suc j) l =
    let w = first-within s j in
    All-append {X = ℕ × ℕ} (Inside n) (array_places s n j) (column_places (first_row s j) j (n - first_row s j))
    (places-inside s n j (omega arith)) (column-inside n (first_row s j) j (n - first_row s j) (omega arith) (omega arith))

-- and those that are kept
kept-inside : (n : ℕ) (bs : List Bool) (ps : List (ℕ × ℕ)) → All {X = ℕ × ℕ} (Inside n) ps → All {X = ℕ × ℕ} (Inside n) (kept bs ps)
kept-inside n [] ps h = λ i d x. absurd (omega arith)
kept-inside n (b ∷ bs) [] h = λ i d x. absurd (omega arith)
kept-inside n (true ∷ bs) (p ∷ ps) h = All-append {X = ℕ × ℕ} (Inside n) (p ∷ []) (kept bs ps) (all-one n p (h zero p (omega arith)))
    (kept-inside n bs ps (all-others n p ps h))
kept-inside n (false ∷ bs) (p ∷ ps) h = kept-inside n bs ps (all-others n p ps h)

-- the pairs of an array lie in the matrix
pub values-inside : {R Z : Type 0} (remaining : R → Option (List ℕ)) (a b : LineReader R Z) (header : Header) (n : ℕ) (qs : List (ℕ × ℕ))
    → TakesValues remaining a b header (array_places header.symmetry n n) [] qs → All {X = ℕ × ℕ} (Inside n) qs
values-inside remaining a b header n qs h =
    subst (λ z. All {X = ℕ × ℕ} (Inside n) z) (sym h.added)
    (entries-inside n header.symmetry (kept h.flags (array_places header.symmetry n n))
    (kept-inside n h.flags (array_places header.symmetry n n) (places-inside header.symmetry n n (omega arith))))
