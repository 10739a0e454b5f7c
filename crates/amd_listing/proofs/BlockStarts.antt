-- Where the blocks of elements start: of different blocks, none more than there are rows.
use Rattle.std.proofs.Common.{ℕ, ℤ, true, ◌≡◌, ◌<◌, ◌≤◌, ◌+◌, inl, inr, refl, sym, ◌∙◌, ap}
use Rattle.std.proofs.Common.{arith, List, length, take, pos}
use Rattle.std.specs.Prelude.{slice_index, nat_lt, sum_by}
use Rattle.std.proofs.Math.ListN.{set}
use Rattle.std.proofs.lemmas.List.{get_or-set_same, get_or-set_other, take_all}
use Rattle.std.proofs.lemmas.List.Sums.{sum_by_more, sum_by_more_le}
use Rattle.std.proofs.lemmas.Bool.{cases_eq, ltb-true, lt-ltb, and_parts, and_from}
use Rattle.amd_model.specs.Input.Columns.{at}
use Rattle.amd_model.specs.Quotient.{has}
use Rattle.amd_model.specs.State.{Home}
use Rattle.amd_model.proofs.Counting.Below.{count_most}
use Rattle.amd_model.proofs.Counting.Places.{has_place, place_of, places_differ}
use Rattle.amd_model.proofs.Counting.Points.{pigeonhole}
use Rattle.amd_words.specs.Words.{num, size_of, word}
use Rattle.amd_listing.specs.Blocks.{AreElements, AreStarts, BeginWith}
use Rattle.amd_listing.specs.Placing.{PivotsPlaced}
use Rattle.amd_listing.proofs.RowLinks.{sized_small}
use Rattle.amd_listing.proofs.BlockPlaces.{in_blocks, blocks_counted}

module _ (n : ℕ) (home : ℕ → Home) (es : List ℕ) (nv : List ℤ) (a : AreElements n home es nv) where
  -- the blocks have at most n rows
  pub sizes_fit : sum_by (size_of nv) es ≤ n
  sizes_fit = let sum = blocks_counted n home (size_of nv) es a.once a.sizes in let most = count_most n (λ v. in_blocks es (home v)) in
      omega (arith, sum, most)

  pub element_small : (k : ℕ) → k < length es → slice_index es k < n
  element_small k l = let e = slice_index es k in
      ltb-true e n (and_parts (nat_lt e n) (nat_lt 0 (size_of nv e)) (sym (a.each e) ∙ has_place es k l)).0

  pub elements_fit : length es ≤ n
  elements_fit = pigeonhole n (length es) (slice_index es) element_small (λ j k l m. places_differ es a.once j k l m)

-- the blocks of the first k elements start one after another, and `total` is where the next one starts
pub record AreStarted (k : ℕ) (es : List ℕ) (nv : List ℤ) (starts : List ℕ) (total : ℕ) : Type 0 where
  pub sum : total ≡ sum_by (size_of nv) (take k es)
  pub each : (j : ℕ) → j < k → num starts (slice_index es j) ≡ sum_by (size_of nv) (take j es)

pub started_none : (es : List ℕ) (nv : List ℤ) (starts : List ℕ) → AreStarted 0 es nv starts 0
started_none es nv starts = record { sum = refl; each = λ j l. absurd (omega arith) }

module _ (n : ℕ) (home : ℕ → Home) (es : List ℕ) (nv : List ℤ) (a : AreElements n home es nv) where
  -- the next block lies within the rows
  pub started_small : (k : ℕ) (starts : List ℕ) (total : ℕ) → AreStarted k es nv starts total → k < length es →
      total + size_of nv (slice_index es k) ≤ n
  started_small k starts total s l = let more = sum_by_more_le (size_of nv) es k 0 l in let fit = sizes_fit n home es nv a in
      let sum = s.sum in omega (arith, more, fit, sum)

  pub started_more : (k : ℕ) (starts : List ℕ) (total : ℕ) → AreStarted k es nv starts total → k < length es → length starts ≡ n →
      AreStarted (k + 1) es nv (set starts (slice_index es k) total) (total + size_of nv (slice_index es k))
  started_more k starts total s l room =
      let e : ℕ = slice_index es k in let more = sum_by_more (size_of nv) es k 0 l in let sum = s.sum in
      let small = element_small n home es nv a k l in
      record {
        sum = omega (arith, more, sum);
        each = λ j m. elim (cases_eq j k) [
          | inl same ↦ ap (λ i. num (set starts e total) (slice_index es i)) same
              ∙ get_or-set_same starts e total 0 (omega (arith, small, room)) ∙ s.sum ∙ ap (λ i. sum_by (size_of nv) (take i es)) (sym same)
          | inr ne ↦ (let low : j < k = omega (arith, m, ne) in
              get_or-set_other starts e (slice_index es j) total 0 (places_differ es a.once j k low l) ∙ s.each j low)
        ];
      }

  pub started_all : (k : ℕ) (starts : List ℕ) (total : ℕ) → AreStarted k es nv starts total → k ≡ length es → length starts ≡ n →
      AreStarts n es nv starts total
  started_all k starts total s all room = record {
    long = room;
    each = λ j l. s.each j (omega (arith, l, all));
    end_is = s.sum ∙ ap (sum_by (size_of nv)) (take_all k es (omega (arith, all)));
  }

-- the pivot rows of the first k elements are at the last places of their blocks, all below `total`
abbrev pub PivotsPut : ℕ → List ℕ → List ℤ → ℕ → List ℤ → List ℤ → Type 0
PivotsPut k es nv total p q = (j m : ℕ) → j < k → m + 1 ≡ sum_by (size_of nv) (take j es) + size_of nv (slice_index es j) →
    (m < total) × (at p m ≡ pos (slice_index es j)) × (at q (slice_index es j) ≡ pos m)

pub pivots_none : (es : List ℕ) (nv p q : List ℤ) → PivotsPut 0 es nv 0 p q
pivots_none es nv p q j m l is = absurd (omega (arith, l))

module _ (n : ℕ) (home : ℕ → Home) (es : List ℕ) (nv : List ℤ) (a : AreElements n home es nv) where
  pub element_sized : (k : ℕ) → k < length es → 0 < size_of nv (slice_index es k)
  element_sized k l = let e = slice_index es k in
      ltb-true 0 (size_of nv e) (and_parts (nat_lt e n) (nat_lt 0 (size_of nv e)) (sym (a.each e) ∙ has_place es k l)).1

  -- the next pivot row is put behind all others
  pub pivots_more : (k total : ℕ) (p q : List ℤ) → total ≡ sum_by (size_of nv) (take k es) → PivotsPut k es nv total p q →
      k < length es → length p ≡ n → length q ≡ n → (m : ℕ) → m + 1 ≡ total + size_of nv (slice_index es k) →
      m < n → PivotsPut (k + 1) es nv (total + size_of nv (slice_index es k)) (set p m (pos (slice_index es k)))
      (set q (slice_index es k) (pos m))
  pivots_more k total p q sum put l p_long q_long m m_is small j i low is =
      let e : ℕ = slice_index es k in let sized = element_sized k l in elim (cases_eq j k) [
        | inl same ↦ (let here : i ≡ m = (let s = ap (λ x. sum_by (size_of nv) (take x es) + size_of nv (slice_index es x)) same in
            omega (arith, s, is, sum, m_is)) in (
              omega (arith, here, m_is),
              ap (at (set p m (pos e))) here ∙ get_or-set_same p m (pos e) (pos 0) (omega (arith, small, p_long))
                  ∙ ap (λ x. pos (slice_index es x)) (sym same),
              ap (λ x. at (set q e (pos m)) (slice_index es x)) same
                  ∙ get_or-set_same q e (pos m) (pos 0) (let s = element_small n home es nv a k l in omega (arith, s, q_long))
                  ∙ ap (λ x. pos x) (sym here),
            ))
        | inr ne ↦ (let before : j < k = omega (arith, low, ne) in let h = put j i before is in let under = h.0 in (
          omega (arith, under),
          get_or-set_other p m i (pos e) (pos 0) (λ s. omega (arith, s, under, m_is, sized)) ∙ h.1,
          get_or-set_other q e (slice_index es j) (pos m) (pos 0) (places_differ es a.once j k before l) ∙ h.2,
        ))
      ]

-- the pivot rows of all elements are put
pub pivots_all : (home : ℕ → Home) (es : List ℕ) (nv : List ℤ) (starts : List ℕ) (total : ℕ) (p q : List ℤ) →
    AreElements (length nv) home es nv → AreStarts (length nv) es nv starts total → PivotsPut (length es) es nv total p q →
    PivotsPlaced nv starts p q
pivots_all home es nv starts total p q a s put e m some is =
    let listed : has es e ≡ true = a.each e ∙ and_from (nat_lt e (length nv)) (nat_lt 0 (size_of nv e))
    (lt-ltb e (length nv) (sized_small nv e some)) (lt-ltb 0 (size_of nv e) some) in
    let there = place_of es e listed in let e_is : slice_index es there.0 ≡ e = there.2 0 in
    let start = s.each there.0 there.1 in let start_is = ap (num starts) e_is in let size_is = ap (size_of nv) e_is in
    let h = put there.0 m there.1 (omega (arith, is, start, start_is, size_is)) in
    (h.1 ∙ ap (λ x. pos x) e_is, ap (at q) (sym e_is) ∙ h.2)

-- the number of rows that is read at an element
pub size_read : (nv : List ℤ) (x e m : ℕ) → x ≡ e → word nv x ≡ pos (size_of nv x) → word nv x ≡ pos m → m ≡ size_of nv e
size_read nv x e m q counts is = (let y : pos m ≡ pos (size_of nv x) = sym is ∙ counts in let z : m ≡ size_of nv x = cc in
    z ∙ ap (size_of nv) q)

-- the element that is read at a place of the list
pub begun_at : (figures : List ℕ) (count : ℕ) (es : List ℕ) → BeginWith figures count es → (k x : ℕ) → k < count → x ≡ num figures k →
    x ≡ slice_index es k
begun_at figures count es b k x l q = q ∙ b.each k l
