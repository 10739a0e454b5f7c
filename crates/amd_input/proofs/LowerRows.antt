-- Degrees where no row stands above the diagonal: how often a row stands in the columns, and the neighbours of a row.
use Rattle.std.proofs.Common.{◌≡◌, ◌+◌, ◌-◌, ◌<◌, ◌≤◌, inl, inr, ℕ, zero, suc, Bool, true, false, List, get_or, set, length, arith}
use Rattle.std.proofs.Common.{refl, ap, sym, ◌∙◌, subst, cond, eqb, ◌||◌, ◌&&◌, not, get_or-set_same, get_or-set_other}
use Rattle.std.proofs.lemmas.Bool.{and_parts, cases_eq, eq-eqb, ne_eqb, lt-ltb, true≢false}
use Rattle.std.proofs.lemmas.List.{length-set}
use Rattle.amd_model.specs.Below.{sum_below, count_below}
use Rattle.amd_model.proofs.Counting.Below.{count_most, count_same, sum_stretch}
use Rattle.amd_types.specs.Naturals.{is_before, is_entry, is_edge, count_graph}
use Rattle.amd_edges.specs.Visits.{AreCounts}
use Rattle.amd_edges.proofs.Arcs.{count_more}
use Rattle.amd_edges.proofs.Forms.{IsSortedForm}
use Rattle.amd_edges.proofs.Places.{before_none, before_more, entry_gives, entry_from, entry_none}
use Rattle.amd_input.specs.LowerRows.{AreLow, CountOwn, CountRows, DropDiagonals, times}
use Rattle.amd_input.specs.Mirrors.{CountOthers, is_beside}
use Rattle.amd_input.proofs.MirroredRows.{others_count}
use Rattle.amd_input.proofs.Symmetry.{off, off_count, one_if}

-- at one place more
pub times_next : (ai : List ℕ) (q i : ℕ) → times ai (suc q) i ≡ times ai q i + one_if (eqb (get_or ai q 0) i)
unfolding times count_below sum_below
times_next ai q i = omega arith

times_none : (ai : List ℕ) (i : ℕ) → times ai 0 i ≡ 0
unfolding times count_below sum_below
times_none ai i = refl

-- no fewer before a later place
pub times_up : (ai : List ℕ) (q d i : ℕ) → times ai q i ≤ times ai (q + d) i
unfolding times count_below
times_up ai q d i = sum_stretch d q (λ r. cond (eqb (get_or ai r 0) i) 1 0)

-- two tests that never pass together
pub count_apart : (n : ℕ) (p q : ℕ → Bool) → ((k : ℕ) → p k ≡ true → q k ≡ true → ⊥) →
    count_below n (λ k. p k || q k) ≡ count_below n p + count_below n q
unfolding count_below sum_below
count_apart zero p q apart = refl
count_apart (suc n) p q apart =
    let rest = count_apart n p q apart in let here = one (p n) (q n) (apart n) in omega (arith, rest, here)
  where
    one : (a b : Bool) → (a ≡ true → b ≡ true → ⊥) → one_if (a || b) ≡ one_if a + one_if b
    one true true h = absurd (h refl refl)
    one true false h = refl
    one false b h = omega arith

module _ (n : ℕ) (ap' ai : List ℕ) (form : IsSortedForm n ap' ai) where
  -- before a place of column j a row stands once more if it stands in the column before that place
  times_upto : (i j d : ℕ) → j < n → get_or ap' j 0 + d ≤ get_or ap' (j + 1) 0 →
      times ai (get_or ap' j 0 + d) i ≡ times ai (get_or ap' j 0) i + one_if (is_before ap' ai (get_or ap' j 0 + d) i j)
  times_upto i j zero h up =
      let start : get_or ap' j 0 + 0 ≡ get_or ap' j 0 = omega arith in let same = ap (λ x. times ai x i) start in
      let none = ap one_if (before_none ap' ai (get_or ap' j 0 + 0) i j (λ q low high e. omega arith)) in omega (arith, same, none)
  times_upto i j (suc d) h up =
      let q : ℕ = get_or ap' j 0 + d in let end : get_or ap' j 0 + suc d ≡ suc q = omega arith in
      let next : get_or ap' j 0 + suc d ≡ q + 1 = omega arith in
      let before = times_upto i j d h (omega arith) in let more = times_next ai q i in
      let longer = ap (λ x. times ai x i) end in
      let is = ap (λ x. one_if (is_before ap' ai x i j)) next in
      let step = ap one_if (before_more ap' ai q (get_or ai q 0) j i (omega arith) refl) in
      elim (cases_eq (get_or ai q 0) i) [
        | inl here ↦ (
            let fresh : is_before ap' ai q i j ≡ false =
            before_none ap' ai q i j (λ r low high same. let w = form.ascend j r q h low high (omega arith) in
            omega (arith, w, same, here)) in
            let yes' = ap one_if (eq-eqb (get_or ai q 0) i here) in let none = ap one_if fresh in
            let both : one_if (is_before ap' ai q i j || eqb i (get_or ai q 0)) ≡ 1 =
            rw (fresh, eq-eqb i (get_or ai q 0) (sym here)) refl in
            omega (arith, before, more, longer, is, step, yes', none, both))
        | inr other ↦ (
            let no' = ap one_if (ne_eqb (get_or ai q 0) i other) in
            let both : one_if (is_before ap' ai q i j || eqb i (get_or ai q 0)) ≡ one_if (is_before ap' ai q i j) =
            rw (ne_eqb i (get_or ai q 0) (λ e. other (sym e))) (or_none (is_before ap' ai q i j)) in
            omega (arith, before, more, longer, is, step, no', both))
      ]
    where
      or_none : (x : Bool) → one_if (x || false) ≡ one_if x
      or_none true = refl
      or_none false = refl

  times_column : (i j : ℕ) → j < n →
      times ai (get_or ap' (j + 1) 0) i ≡ times ai (get_or ap' j 0) i + one_if (is_entry n ap' ai i j)
  unfolding is_entry
  times_column i j h =
      let up = form.rising j h in let d : ℕ = get_or ap' (j + 1) 0 - get_or ap' j 0 in
      let end : get_or ap' j 0 + d ≡ get_or ap' (j + 1) 0 = omega (arith, up) in
      let upto = times_upto i j d h (omega (arith, end)) in
      let longer = ap (λ x. times ai x i) end in let is = ap (λ x. one_if (is_before ap' ai x i j)) end in
      let entry : one_if (is_entry n ap' ai i j) ≡ one_if (is_before ap' ai (get_or ap' (j + 1) 0) i j) = rw (lt-ltb j n h) refl in
      omega (arith, upto, longer, is, entry)

  -- a row stands as often as there are columns in which it stands
  pub times_all : (i k : ℕ) → k ≤ n → get_or ap' 0 0 ≡ 0 → times ai (get_or ap' k 0) i ≡ count_below k (λ j. is_entry n ap' ai i j)
  unfolding count_below sum_below
  times_all i zero h first = ap (λ x. times ai x i) first ∙ times_none ai i
  times_all i (suc k) h first =
      let rest = times_all i k (omega (arith, h)) first in let here = times_column i k (omega (arith, h)) in
      let next : k + 1 ≡ suc k = omega arith in let longer = ap (λ x. times ai (get_or ap' x 0) i) next in
      omega (arith, rest, here, longer)

  -- the neighbours of a row are the other rows of its column, and those in whose columns it stands
  pub neighbours_are : AreLow n ap' ai n → (i : ℕ) → i < n → get_or ap' 0 0 ≡ 0 →
      count_below n (is_edge n ap' ai i) + one_if (is_entry n ap' ai i i) ≡
      count_below n (is_beside n ap' ai i) + times ai (get_or ap' n 0) i
  unfolding is_edge is_beside off
  neighbours_are low i h first =
      let E : ℕ → ℕ → Bool = is_entry n ap' ai in
      let stands = times_all i n (omega arith) first in
      let parted = off_count n (λ a b. E b a) i h in
      let split = count_same n (λ j. not (eqb i j) && (E i j || E j i)) (λ j. (not (eqb i j) && E i j) || (not (eqb i j) && E j i))
      (λ j l. spread (not (eqb i j)) (E i j) (E j i)) in
      let both = count_apart n (λ j. not (eqb i j) && E i j) (λ j. not (eqb i j) && E j i) (λ j a b. apart j a b) in
      omega (arith, stands, parted, split, both)
    where
      spread : (a b c : Bool) → (a && (b || c)) ≡ ((a && b) || (a && c))
      spread true b c = refl
      spread false b c = refl

      apart : (j : ℕ) → (not (eqb i j) && is_entry n ap' ai i j) ≡ true → (not (eqb i j) && is_entry n ap' ai j i) ≡ true → ⊥
      apart j a b =
          let p = and_parts (not (eqb i j)) (is_entry n ap' ai i j) a in let q = and_parts (not (eqb i j)) (is_entry n ap' ai j i) b in
          let there = entry_gives ap' ai n i j p.1 in let back = entry_gives ap' ai n j i q.1 in
          let j_in = there.1 in let i_in = back.1 in let up = low i j j_in p.1 in let down = low j i i_in q.1 in
          let same : i ≡ j = omega (arith, up, down) in true≢false (sym p.0 ∙ ap not (eq-eqb i j same))

  -- so what is counted of a row passes the number of rows at no time
  pub neighbours_room : AreLow n ap' ai n → (i : ℕ) → i < n → get_or ap' 0 0 ≡ 0 →
      count_below n (is_beside n ap' ai i) + times ai (get_or ap' n 0) i ≤ n
  unfolding is_edge
  neighbours_room low i h first =
      let are = neighbours_are low i h first in
      let own : is_edge n ap' ai i i ≡ false = rw (eq-eqb i i refl) refl in
      let more = count_more n (is_edge n ap' ai i) (λ b. is_edge n ap' ai i b || eqb b i) i h own (λ b. refl) in
      let most = count_most n (λ b. is_edge n ap' ai i b || eqb b i) in let one = one_most (is_entry n ap' ai i i) in
      omega (arith, are, more, most, one)
    where
      one_most : (b : Bool) → one_if b ≤ 1
      one_most true = omega arith
      one_most false = omega arith

  -- the numbers that were counted are the degrees, without the diagonal entries or where there are none
  module _ (low : AreLow n ap' ai n) (first : get_or ap' 0 0 ≡ 0) (before middle : List ℕ) (others : CountOthers n ap' ai n before)
      (rows : CountRows ai (get_or ap' n 0) before middle) where
    pub degrees_dropped : (numbers : List ℕ) → DropDiagonals n ap' ai n middle numbers →
        AreCounts (count_graph n ap' ai) (is_edge n ap' ai) numbers
    degrees_dropped numbers dropped = record {
      size = dropped.size ∙ rows.size ∙ others.size;
      each = λ i l. let are = neighbours_are low i l first in let long = others.size in let mid = rows.each i (omega (arith, l, long)) in
          let own = others.each i l in let done = dropped.done i l in omega (arith, are, mid, own, done);
    }

    pub degrees_plain : ((i : ℕ) → i < n → is_entry n ap' ai i i ≡ false) →
        AreCounts (count_graph n ap' ai) (is_edge n ap' ai) middle
    degrees_plain none = record {
      size = rows.size ∙ others.size;
      each = λ i l. let are = neighbours_are low i l first in let long = others.size in let mid = rows.each i (omega (arith, l, long)) in
          let own = others.each i l in let no' = ap one_if (none i l) in omega (arith, are, mid, own, no');
    }

  -- the first row of column k is no less than k: so are all
  low_column : (k : ℕ) → k < n → (get_or ap' k 0 < get_or ap' (k + 1) 0 → k ≤ get_or ai (get_or ap' k 0) 0) → (i : ℕ) →
      is_entry n ap' ai i k ≡ true → k ≤ i
  low_column k k_in first i e =
      let r = entry_gives ap' ai n i k e in let from = r.2 in let to = r.3 in let is = r.4 in
      let low = first (omega (arith, from, to)) in elim (cases_eq (get_or ap' k 0) r.0) [
        | inl same ↦ (let here = ap (λ x. get_or ai x 0) same in omega (arith, here, low, is))
        | inr other ↦ (let up = form.ascend k (get_or ap' k 0) r.0 k_in (omega arith) (omega (arith, from, other)) to in
            omega (arith, up, low, is))
      ]

  -- a column that begins with its diagonal entry
  pub own_with : (k others : ℕ) → k < n → get_or ap' k 0 < get_or ap' (k + 1) 0 → get_or ai (get_or ap' k 0) 0 ≡ k →
      others ≡ get_or ap' (k + 1) 0 - get_or ap' k 0 - 1 → CountOwn n ap' ai k (record { others = others; diagonal = true })
  own_with k others k_in some first is =
      let yes' = entry_from ap' ai n k k (get_or ap' k 0) k_in (omega arith) some first in
      let all = others_count n ap' ai form k k_in in let one = ap one_if yes' in record {
        others = omega (arith, all, one, is);
        diagonal = sym yes';
        low = low_column k k_in (λ x. omega (arith, first));
      }

  -- one that has no rows up to the diagonal
  pub own_without : (k others : ℕ) → k < n → (get_or ap' k 0 < get_or ap' (k + 1) 0 → k < get_or ai (get_or ap' k 0) 0) →
      others ≡ get_or ap' (k + 1) 0 - get_or ap' k 0 → CountOwn n ap' ai k (record { others = others; diagonal = false })
  own_without k others k_in first is =
      let no' = entry_none ap' ai n k k (λ q h from to e. let low = first (omega (arith, from, to)) in
      elim (cases_eq (get_or ap' k 0) q) [
        | inl same ↦ (let here = ap (λ x. get_or ai x 0) same in omega (arith, here, low, e))
        | inr other ↦ (let up = form.ascend k (get_or ap' k 0) q k_in (omega arith) (omega (arith, from, other)) to in
            omega (arith, up, low, e))
      ]) in
      let all = others_count n ap' ai form k k_in in let none = ap one_if no' in record {
        others = omega (arith, all, none, is);
        diagonal = sym no';
        low = low_column k k_in (λ x. let low = first x in omega (arith, low));
      }

  -- the columns are low, so a diagonal entry stands first
  pub diagonal_first : AreLow n ap' ai n → (k first : ℕ) → k < n → get_or ap' k 0 < get_or ap' (k + 1) 0 →
      first ≡ get_or ai (get_or ap' k 0) 0 → eqb first k ≡ is_entry n ap' ai k k
  diagonal_first low k first k_in some is = elim (cases_eq first k) [
    | inl same ↦ eq-eqb first k same ∙ (own_with k _ k_in some (sym is ∙ same) refl).diagonal
    | inr other ↦ ne_eqb first k other ∙ (own_without k _ k_in
        (λ x. let up = low first k k_in (entry_from ap' ai n first k (get_or ap' k 0) k_in (omega arith) some (sym is)) in
        omega (arith, up, other, is)) refl).diagonal
  ]

  -- and a column without rows has none
  pub diagonal_none : (k : ℕ) → k < n → get_or ap' (k + 1) 0 ≤ get_or ap' k 0 → false ≡ is_entry n ap' ai k k
  diagonal_none k k_in none = (own_without k _ k_in (λ some. omega (arith, some, none)) refl).diagonal

-- one place more is counted
pub rows_next : (ai : List ℕ) (q row v : ℕ) (before numbers : List ℕ) → row < length before → row ≡ get_or ai q 0 →
    v ≡ get_or numbers row 0 → CountRows ai q before numbers → CountRows ai (q + 1) before (set numbers row (v + 1))
rows_next ai q row v before numbers row_in is value h =
    let next : suc q ≡ q + 1 = omega arith in record {
      size = length-set numbers row (v + 1) ∙ h.size;
      each = λ i l. let more = times_next ai q i in let later = ap (λ x. times ai x i) next in let old = h.each i l in
          elim (cases_eq row i) [
            | inl same ↦ (let here = ap (λ x. get_or (set numbers row (v + 1)) x 0) (sym same)
                ∙ get_or-set_same numbers row (v + 1) 0 (let s = h.size in omega (arith, s, row_in)) in
                let one = ap one_if (eq-eqb (get_or ai q 0) i (sym is ∙ same)) in let was = ap (λ x. get_or numbers x 0) same in
                omega (arith, more, later, old, here, one, was, value))
            | inr other ↦ (let there = get_or-set_other numbers row i (v + 1) 0 (λ e. other (sym e)) in
                let none = ap one_if (ne_eqb (get_or ai q 0) i (λ e. other (is ∙ e))) in omega (arith, more, later, old, there, none))
          ];
    }

-- a number that grows so stays below what bounds them all
pub rows_room : (ai : List ℕ) (q entries row v most : ℕ) (before numbers : List ℕ) → q < entries → row < length before →
    row ≡ get_or ai q 0 → v ≡ get_or numbers row 0 → CountRows ai q before numbers →
    get_or before row 0 + times ai entries row ≤ most → v + 1 ≤ most
rows_room ai q entries row v most before numbers q_in row_in is value h bound =
    let old = h.each row row_in in let more = times_next ai q row in let one = ap one_if (eq-eqb (get_or ai q 0) row (sym is)) in
    let up = times_up ai (suc q) (entries - suc q) row in let end : suc q + (entries - suc q) ≡ entries = omega (arith, q_in) in
    let all = ap (λ x. times ai x row) end in omega (arith, old, more, one, up, all, value, bound)

pub rows_none : (ai : List ℕ) (before : List ℕ) → CountRows ai 0 before before
rows_none ai before = record { size = refl; each = λ i l. let none = times_none ai i in omega (arith, none) }

-- one column more is without its diagonal entry
module _ (n : ℕ) (ap' ai : List ℕ) (k : ℕ) (before numbers : List ℕ) (h : DropDiagonals n ap' ai k before numbers) where
  pub drop_some : (v : ℕ) → k < length before → v ≡ get_or numbers k 0 → is_entry n ap' ai k k ≡ true →
      DropDiagonals n ap' ai (k + 1) before (set numbers k (v - 1))
  drop_some v k_in is entry = record {
    size = length-set numbers k (v - 1) ∙ h.size;
    done = λ i l. elim (cases_eq i k) [
      | inl same ↦ rw same (let here = get_or-set_same numbers k (v - 1) 0 (let s = h.size in omega (arith, s, k_in)) in
          let left = h.left k (omega arith) in let one = ap one_if entry in omega (arith, here, left, one, is))
      | inr other ↦ get_or-set_other numbers k i (v - 1) 0 other ∙ h.done i (omega (arith, l, other))
    ];
    left = λ i l. get_or-set_other numbers k i (v - 1) 0 (λ e. omega (arith, e, l)) ∙ h.left i (omega (arith, l));
  }

  pub drop_none : is_entry n ap' ai k k ≡ false → DropDiagonals n ap' ai (k + 1) before numbers
  drop_none entry = record {
    size = h.size;
    done = λ i l. elim (cases_eq i k) [
      | inl same ↦ rw same (let left = h.left k (omega arith) in let none = ap one_if entry in omega (arith, left, none))
      | inr other ↦ h.done i (omega (arith, l, other))
    ];
    left = λ i l. h.left i (omega (arith, l));
  }

pub drop_no_column : (n : ℕ) (ap' ai before : List ℕ) → DropDiagonals n ap' ai 0 before before
drop_no_column n ap' ai before = record { size = refl; done = λ i l. absurd (omega (arith, l)); left = λ i l. refl }

-- one column more is low
pub low_more : (n : ℕ) (ap' ai : List ℕ) (k : ℕ) → AreLow n ap' ai k → ((i : ℕ) → is_entry n ap' ai i k ≡ true → k ≤ i) →
    AreLow n ap' ai (k + 1)
low_more n ap' ai k before own i j l e = elim (cases_eq j k) [
  | inl same ↦ rw same (own i (subst (λ x. is_entry n ap' ai i x ≡ true) same e))
  | inr other ↦ before i j (omega (arith, l, other)) e
]
