-- The words of a size and of an entry, one by one.
use Rattle.std.proofs.Common.{◌≡◌, ◌<◌, ℕ, zero, suc, pos, arith, Bool, true, false, List, [], ◌∷◌, ◌++◌, cond, sym, ap}
use Rattle.std.proofs.Common.{◌∙◌, ◌+◌, ◌-◌, length, length-append, append_assoc, take, drop, subst, eqb, refl, ℤ}
use Rattle.std.proofs.lemmas.Bool.{eqb-true}
use Rattle.amd_lines.specs.Lines.{is_note, percent}
use Rattle.std.specs.Prelude.{All, flat_map, ◌==◌, ◌&&◌, not}
use Rattle.std.proofs.lemmas.List.Elements.{All-append}
use Rattle.std.proofs.lemmas.List.Folds.{list_all-append}
use Rattle.amd_lines.specs.Words.{words, SpellsNumber, StaysInLine, EndsAt}
use Rattle.amd_lines.proofs.FrontLemmas.{stays_both, line_words}
use Rattle.std.specs.Float.Parse.{is_float_text}
use Rattle.amd_market.specs.Headers.{pairs_of, is_mirrored, value_words}
use Rattle.amd_market.specs.Entries.{SpellsSize, SpellsEntry, SpellsEntries, BeginsEntry, BeginsValues, is_value}
use Rattle.amd_market.specs.Arrays.{SpellsShape}
use Rattle.amd_market.specs.declared.headers.Field.{Field}
use Rattle.amd_market.specs.declared.headers.Symmetry.{Symmetry}

-- the three words of a line spell the numbers of any size that it spells
pub size-words : (line f s t : List ℕ) → words line ≡ f ∷ (s ∷ (t ∷ [])) → (r c e : ℕ) → SpellsSize line r c e →
    SpellsNumber f (pos r) × (SpellsNumber s (pos c) × SpellsNumber t (pos e))
size-words line f s t are r c e h =
    let all : h.first ∷ (h.second ∷ (h.third ∷ [])) ≡ f ∷ (s ∷ (t ∷ [])) = sym h.parts ∙ are in
    let one : h.first ≡ f = cc in
    let two : h.second ≡ s = cc in
    let three : h.third ≡ t = cc in (
      subst (λ w. SpellsNumber w (pos r)) one h.has_rows,
      (subst (λ w. SpellsNumber w (pos c)) two h.has_columns, subst (λ w. SpellsNumber w (pos e)) three h.has_entries),
    )

-- the same of the two words of an array's size
pub shape-words : (line f s : List ℕ) → words line ≡ f ∷ (s ∷ []) → (r c : ℕ) → SpellsShape line r c →
    SpellsNumber f (pos r) × SpellsNumber s (pos c)
shape-words line f s are r c h =
    let all : h.first ∷ (h.second ∷ []) ≡ f ∷ (s ∷ []) = sym h.parts ∙ are in
    let one : h.first ≡ f = cc in
    let two : h.second ≡ s = cc in (
      subst (λ w. SpellsNumber w (pos r)) one h.has_rows,
      subst (λ w. SpellsNumber w (pos c)) two h.has_columns,
    )

-- one entry more
pub entries-more : (field : Field) (n : ℕ) (ls : List (List ℕ)) (es : List (ℕ × ℕ)) (l : List ℕ) (e : ℕ × ℕ) → SpellsEntries field n ls es
    → SpellsEntry field n l e → SpellsEntries field n (ls ++ l ∷ []) (es ++ e ∷ [])
entries-more field n [] [] l e h k = (k, tt)
entries-more field n [] (d ∷ es) l e h k = elim h [ ]
entries-more field n (m ∷ ls) [] l e h k = elim h [ ]
entries-more field n (m ∷ ls) (d ∷ es) l e h k = (h.0, entries-more field n ls es l e h.1 k)

-- both places of a pair lie among n rows
abbrev pub Inside : ℕ → ℕ × ℕ → Type 0
Inside n p = (p.0 < n) × (p.1 < n)

pub all-one : (n : ℕ) (p : ℕ × ℕ) → Inside n p → All {X = ℕ × ℕ} (Inside n) (p ∷ [])
all-one n p h zero d k = h
all-one n p h (suc i) d k = absurd (omega arith)

-- the pairs of an entry lie in the matrix
pairs-inside : (n : ℕ) (s : Symmetry) (e : ℕ × ℕ) → e.0 < n → e.1 < n → All {X = ℕ × ℕ} (Inside n) (pairs_of s e)
pairs-inside n s e h k = at (is_mirrored s && not (e.0 == e.1))
  where
    at : (b : Bool) → All {X = ℕ × ℕ} (Inside n) (cond b ((e.0, e.1) ∷ ((e.1, e.0) ∷ [])) ((e.0, e.1) ∷ []))
    at true = All-append {X = ℕ × ℕ} (Inside n) ((e.0, e.1) ∷ []) ((e.1, e.0) ∷ []) (all-one n (e.0, e.1) (h, k))
        (all-one n (e.1, e.0) (k, h))
    at false = all-one n (e.0, e.1) (h, k)

-- the entries lie in the matrix
listed-inside : (field : Field) (n : ℕ) (ls : List (List ℕ)) (es : List (ℕ × ℕ)) → SpellsEntries field n ls es →
    All {X = ℕ × ℕ} (Inside n) es
listed-inside field n [] [] h = λ k d x. absurd (omega arith)
listed-inside field n [] (e ∷ es) h = elim h [ ]
listed-inside field n (l ∷ ls) [] h = elim h [ ]
listed-inside field n (l ∷ ls) (e ∷ es) h = All-append {X = ℕ × ℕ} (Inside n) (e ∷ []) es
    (all-one n e (h.0.row.0, h.0.column.0)) (listed-inside field n ls es h.1)

-- what holds of all elements holds of the first and of the others
all-first : (n : ℕ) (e : ℕ × ℕ) (es : List (ℕ × ℕ)) → All {X = ℕ × ℕ} (Inside n) (e ∷ es) → Inside n e
all-first n e es h = h zero e (omega arith)

pub all-others : (n : ℕ) (e : ℕ × ℕ) (es : List (ℕ × ℕ)) → All {X = ℕ × ℕ} (Inside n) (e ∷ es) → All {X = ℕ × ℕ} (Inside n) es
all-others n e es h i d l = h (suc i) d (omega arith)

-- the pairs of entries that lie in the matrix
pub entries-inside : (n : ℕ) (s : Symmetry) (es : List (ℕ × ℕ)) → All {X = ℕ × ℕ} (Inside n) es →
    All {X = ℕ × ℕ} (Inside n) (flat_map (pairs_of s) es)
entries-inside n s [] h = λ k d x. absurd (omega arith)
entries-inside n s (e ∷ es) h =
    let here = all-first n e es h in
    All-append {X = ℕ × ℕ} (Inside n) (pairs_of s e) (flat_map (pairs_of s) es)
    (pairs-inside n s e here.0 here.1) (entries-inside n s es (all-others n e es h))

-- the pairs of all entries lie in the matrix
pub all-inside : (field : Field) (n : ℕ) (s : Symmetry) (ls : List (List ℕ)) (es : List (ℕ × ℕ)) → SpellsEntries field n ls es
    → All {X = ℕ × ℕ} (Inside n) (flat_map (pairs_of s) es)
all-inside field n s ls es h = entries-inside n s es (listed-inside field n ls es h)

-- what stands behind the first two words
pub second-rest : {X : Type 0} (l t u ws : List X) (x y p q : X) → l ≡ x ∷ t → t ≡ y ∷ u → l ≡ p ∷ (q ∷ ws) → u ≡ ws
second-rest l t u ws x y p q h k e = let all : x ∷ (y ∷ u) ≡ p ∷ (q ∷ ws) = ap (λ z. x ∷ z) (sym k) ∙ sym h ∙ e in cc

-- a line whose first word is a number is no note
not_percent : (cs : List ℕ) (z : ℤ) → SpellsNumber (37 ∷ cs) z → ⊥
not_percent cs z h = let d = h.numeral.1.0 in omega (arith, d)

pub number_says : (first : List ℕ) (behind : List (List ℕ)) (z : ℤ) → SpellsNumber first z → is_note percent (first ∷ behind) ≡ false
number_says [] behind z h = let some = h.numeral.0 in absurd (omega (arith, some))
number_says (c ∷ cs) behind z h = at (eqb c 37) refl
  where
    at : (b : Bool) → eqb c 37 ≡ b → is_note percent ((c ∷ cs) ∷ behind) ≡ false
    at true e = absurd (not_percent cs z (subst (λ x. SpellsNumber (x ∷ cs) z) (eqb-true c 37 e) h))
    at false e = e

-- no number, and one more
pub values_none : (text : List ℕ) → BeginsValues 0 text text
values_none text = record { values = []; parts = refl; are = record { counted = refl; numbers = refl } }

pub values_more : (count : ℕ) (text left rest w : List ℕ) → BeginsValues count text left → words left ≡ w ∷ words rest →
    is_float_text w ≡ true → BeginsValues (count + 1) text rest
values_more count text left rest w h are is =
    let long = length-append h.values (w ∷ []) in
    let counted = h.are.counted in record {
      values = h.values ++ w ∷ [];
      parts = h.parts ∙ ap (λ z. h.values ++ z) are ∙ sym (append_assoc h.values (w ∷ []) (words rest));
      are = record {
        counted = omega (arith, long, counted);
        numbers = list_all-append is_value h.values (w ∷ []) ∙ rw (h.are.numbers, is) refl;
      };
    }

-- the first line of a text is an entry
pub entry_ends : (field : Field) (n row column : ℕ) (text behind rest : List ℕ) (place d : ℕ) → BeginsEntry n text row column behind →
    StaysInLine text behind → BeginsValues (value_words field) behind rest → StaysInLine behind rest → EndsAt rest place →
    words rest ≡ words (drop (place + 1) rest) → d ≡ length text - length rest + place →
    EndsAt text d × SpellsEntry field n (take (d + 1) text) (row, column)
entry_ends field n row column text behind rest place d h stays v rests end none is =
    let are : words text ≡ (h.first ∷ (h.second ∷ v.values)) ++ words rest
    = h.parts ∙ ap (λ z. h.first ∷ (h.second ∷ z)) v.parts in
    let line = line_words text rest (h.first ∷ (h.second ∷ v.values)) place d (stays_both text behind rest stays rests) end is are none in (
      line.0,
      record {
        first = h.first;
        second = h.second;
        behind = v.values;
        parts = line.1;
        row = h.has_row;
        column = h.has_column;
        value = v.are;
      },
    )

pub entry_says : (field : Field) (n : ℕ) (line : List ℕ) (e : ℕ × ℕ) → SpellsEntry field n line e → is_note percent (words line) ≡ false
entry_says field n line e h = rw h.parts (number_says h.first (h.second ∷ h.behind) _ h.row.1)
