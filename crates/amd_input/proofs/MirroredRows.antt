-- Columns that are read in turn, each upper entry with its mirror.
use Rattle.std.proofs.Common.{◌≡◌, ◌≢◌, ◌+◌, ◌-◌, ◌<◌, ◌≤◌, inl, inr, ℕ, Bool, true, false, List, [], ◌∷◌, ◌++◌, length, get_or, set}
use Rattle.std.proofs.Common.{get_or-set_same, get_or-set_other, arith, refl, ap, sym, ◌∙◌, subst, eqb, ◌&&◌, ◌||◌, ◌⊎◌, not, le_refl}
use Rattle.std.proofs.lemmas.Bool.{cases_Bool, cases_eq, cases_lt, false_from_ne_true}
use Rattle.std.proofs.lemmas.Grind.{get_or_default_zero}
use Rattle.std.proofs.lemmas.List.{length-set, length_push, get_or_push, get_or_append_left}
use Rattle.amd_model.specs.Below.{count_below}
use Rattle.amd_model.proofs.Counting.Below.{count_same}
use Rattle.amd_types.specs.Naturals.{is_entry, count_graph, is_edge}
use Rattle.amd_edges.specs.Visits.{AreCounts}
use Rattle.amd_edges.proofs.Forms.{IsSortedForm}
use Rattle.amd_edges.proofs.Places.{cases_order, entry_from, entry_gives, entry_none}
use Rattle.amd_edges.proofs.Reading.{IsReading}
use Rattle.amd_input.specs.Mirrors.{HaveMirrors, CountOthers, EndsUpper, HasMirrors, HasNoMirror, is_beside}
use Rattle.amd_input.specs.Mirrors.{IsLastHigh, IsLastLow}
use Rattle.amd_input.proofs.Symmetry.{column_count, off, off_count, one_if}

module _ (n : ℕ) (ap' ai : List ℕ) where
  -- nothing was read
  pub mirrors_none : (t : List ℕ) → length t ≡ 0 → HaveMirrors n ap' ai t 0 0
  mirrors_none t empty = record {
    size = empty;
    start = λ a l. absurd (omega (arith, l));
    stop = λ a l. absurd (omega (arith, l));
    low = λ a r l. absurd (omega (arith, l));
    passed = λ a r l. absurd (omega (arith, l));
    behind = λ a r l x y. absurd (omega (arith, l));
    found = λ a c l z e. elim z [ inl x ↦ absurd (omega (arith, x)) | inr x ↦ (let u = x.1 in absurd (omega (arith, u))) ];
  }

  pub others_none : (numbers : List ℕ) → length numbers ≡ 0 → CountOthers n ap' ai 0 numbers
  others_none numbers empty = record { size = empty; each = λ j l. absurd (omega (arith, l)) }

  -- a row of a column that was not read up to row m stands at or behind the place
  pub unread_row : (k m p end a : ℕ) → end ≡ get_or ap' (k + 1) 0 → IsReading ai (get_or ap' k 0) end k m p → m ≤ a →
      is_entry n ap' ai a k ≡ true → (r : ℕ) × (p ≤ r) × (r < end) × (get_or ai r 0 ≡ a)
  unread_row k m p end a ends so low e = let r = entry_gives ap' ai n a k e in let from = r.2 in let to = r.3 in let is = r.4 in (
    r.0,
    elim (cases_lt r.0 p) [
      | inl x ↦ (let w = so.read r.0 from x in absurd (omega (arith, w, is, low)))
      | inr x ↦ x
    ],
    omega (arith, to, ends),
    is,
  )

  module _ (form : IsSortedForm n ap' ai) where
    -- so it is no less than the one at the place
    pub unread_from : (k m p end a : ℕ) → k < n → end ≡ get_or ap' (k + 1) 0 → IsReading ai (get_or ap' k 0) end k m p → m ≤ a →
        is_entry n ap' ai a k ≡ true → (p < end) × (get_or ai p 0 ≤ a)
    unread_from k m p end a k_in ends so low e =
        let r = unread_row k m p end a ends so low e in let x = r.1 in let y = r.2 in let is = r.3 in let from = so.from in (
          omega (arith, x, y),
          elim (cases_eq p r.0) [
            | inl same ↦ (let w = ap (λ z. get_or ai z 0) same in omega (arith, w, is))
            | inr ne ↦ (let w = form.ascend k p r.0 k_in from (omega (arith, x, ne)) (omega (arith, y, ends)) in omega (arith, w, is))
          ],
        )

    -- where each row was read to its end, each entry has a mirror
    pub mirrors_all : (t : List ℕ) → HaveMirrors n ap' ai t n 0 →
        ((j : ℕ) → j < n → get_or t j 0 ≡ get_or ap' (j + 1) 0) → HasMirrors n ap' ai
    mirrors_all t so ends i j e =
        let r = entry_gives ap' ai n i j e in let j_in = r.1 in let from = r.2 in let to = r.3 in let is = r.4 in
        let row = form.rows j r.0 j_in from to in
        elim (cases_order i j) [
          | inl x ↦ (let f = so.found i j x (inl j_in) e in let past = f.2 in let i_in : i < n = omega (arith, x, j_in) in
              let end = ends i i_in in entry_from ap' ai n j i f.0 i_in f.1 (omega (arith, past, end)) f.3)
          | inr y ↦ elim y [
            | inl x ↦ subst (λ z. is_entry n ap' ai z i ≡ true) x (subst (λ z. is_entry n ap' ai i z ≡ true) (sym x) e)
            | inr x ↦ (let end = ends j j_in in elim (so.behind j r.0 j_in from (omega (arith, to, end))) [
              | inl low ↦ absurd (omega (arith, low, is, x))
              | inr mirror ↦ subst (λ z. is_entry n ap' ai j z ≡ true) is mirror
            ])
          ]
        ]

    module _ (t : List ℕ) (k m : ℕ) (k_in : k ≤ n) (so : HaveMirrors n ap' ai t k m) where
      -- a row at a pointer has no mirror where the column of the mirror was read
      pub pointer_lacks : (j : ℕ) → j < k → get_or t j 0 < get_or ap' (j + 1) 0 → get_or ai (get_or t j 0) 0 < k → HasNoMirror n ap' ai
      pointer_lacks j j_in inside before =
          let q = get_or t j 0 in let row = get_or ai q 0 in let j_below : j < n = omega (arith, j_in, k_in) in
          let from = so.start j j_in in let up = so.low j q j_in (le_refl q) inside in record {
            row = row;
            column = j;
            row_in = omega (arith, before, k_in);
            column_in = j_below;
            stands = entry_from ap' ai n row j q j_below from inside refl;
            lacks = false_from_ne_true _ (λ e. let f = so.found j row up (inl before) e in
                let w = form.ascend j f.0 q j_below f.1 f.2 inside in let is = f.3 in omega (arith, w, is));
          }

      -- an upper entry that is not at its pointer has no mirror, or the row there has none
      pub upper_lacks : (j q : ℕ) → k < n → j < k → m ≤ j → is_entry n ap' ai j k ≡ true → q ≡ get_or t j q →
          (q < get_or ap' (j + 1) 0 → get_or ai q 0 ≢ k) → HasNoMirror n ap' ai
      upper_lacks j q k_below j_in low entry value other = elim (cases_Bool (is_entry n ap' ai k j)) [
        | inr none ↦ record {
          row = j;
          column = k;
          row_in = omega (arith, j_in, k_below);
          column_in = k_below;
          stands = entry;
          lacks = none;
        }
        | inl mirror ↦ (let r = entry_gives ap' ai n k j mirror in let j_below = r.1 in let to = r.3 in let is = r.4 in
            let at : q ≡ get_or t j 0 = value ∙ get_or_default_zero t j q (let s = so.size in omega (arith, s, j_in)) in
            let from = so.start j j_in in elim (cases_order r.0 q) [
              | inl x ↦ absurd (elim (so.passed j r.0 j_in r.2 (omega (arith, x, at))) [
                | inl y ↦ omega (arith, y, is, j_in)
                | inr y ↦ elim y [ inl z ↦ omega (arith, z, is) | inr z ↦ (let v = z.1 in omega (arith, v, low)) ]
              ])
              | inr x ↦ elim x [
                | inl same ↦ absurd (other (omega (arith, same, to)) (ap (λ b. get_or ai b 0) (sym same) ∙ is))
                | inr y ↦ (let w = form.ascend j q r.0 j_below (omega (arith, from, at)) y to in
                    pointer_lacks j j_in (omega (arith, y, to, at)) (let v = ap (λ b. get_or ai b 0) at in omega (arith, w, is, v)))
              ]
            ])
      ]

    -- a column that was not read to its end holds a row that has no mirror
    pub unread_lacks : (t : List ℕ) → HaveMirrors n ap' ai t n 0 → (j : ℕ) → j < n → get_or t j 0 ≢ get_or ap' (j + 1) 0 →
        HasNoMirror n ap' ai
    unread_lacks t so j j_in ne =
        let stop = so.stop j j_in in let inside : get_or t j 0 < get_or ap' (j + 1) 0 = omega (arith, stop, ne) in
        pointer_lacks t n 0 (le_refl n) so j j_in inside (form.rows j (get_or t j 0) j_in (so.start j j_in) inside)

    -- the first row of the last column says whether one stands above the diagonal
    module _ (k : ℕ) (last : k + 1 ≡ n) where
      pub last_high : get_or ap' k 0 < get_or ap' (k + 1) 0 → get_or ai (get_or ap' k 0) 0 < k → IsLastHigh n ap' ai
      last_high inside above = let row = get_or ai (get_or ap' k 0) 0 in record {
        row = row;
        above = omega (arith, above, last);
        stands = subst (λ z. is_entry n ap' ai row z ≡ true) (let e : k ≡ n - 1 = omega (arith, last) in e)
            (entry_from ap' ai n row k (get_or ap' k 0) (omega (arith, last)) (le_refl (get_or ap' k 0)) inside refl);
      }

      pub last_low : (get_or ap' k 0 < get_or ap' (k + 1) 0 → k ≤ get_or ai (get_or ap' k 0) 0) → IsLastLow n ap' ai
      last_low below i i_in = subst (λ z. is_entry n ap' ai i z ≡ false) (let e : k ≡ n - 1 = omega (arith, last) in e)
          (entry_none ap' ai n i k (λ q h x y e. let first = get_or ap' k 0 in
          let low = below (omega (arith, x, y)) in elim (cases_eq first q) [
            | inl same ↦ (let w = ap (λ b. get_or ai b 0) same in omega (arith, w, e, low, i_in, last))
            | inr ne ↦ (let w = form.ascend k first q h (le_refl first) (omega (arith, x, ne)) y in omega (arith, w, e, low, i_in, last))
          ]))

  module _ (t : List ℕ) (k m : ℕ) (so : HaveMirrors n ap' ai t k m) where
    -- the upper entry of row j has its mirror at the pointer
    module _ (j q : ℕ) (up : j < k) (low : m ≤ j) (entry : is_entry n ap' ai j k ≡ true)
        (gap : (a : ℕ) → m ≤ a → is_entry n ap' ai a k ≡ true → j ≤ a) (value : q ≡ get_or t j q) (is : get_or ai q 0 ≡ k)
        (inside : q < get_or ap' (j + 1) 0) where
      at : q ≡ get_or t j 0
      at = value ∙ get_or_default_zero t j q (let s = so.size in omega (arith, s, up))

      here : get_or (set t j (q + 1)) j 0 ≡ q + 1
      here = get_or-set_same t j (q + 1) 0 (let s = so.size in omega (arith, s, up))

      there : (a : ℕ) → a ≢ j → get_or (set t j (q + 1)) a 0 ≡ get_or t a 0
      there a ne = get_or-set_other t j a (q + 1) 0 ne

      -- no pointer moves back
      onward : (a : ℕ) → get_or t a 0 ≤ get_or (set t j (q + 1)) a 0
      onward a = elim (cases_eq a j) [
        | inl e ↦ subst (λ z. get_or t z 0 ≤ get_or (set t j (q + 1)) z 0) (sym e) (omega (arith, here, at))
        | inr ne ↦ (let w = there a ne in omega (arith, w))
      ]

      still : (a c : ℕ) → (r : ℕ) × (get_or ap' a 0 ≤ r) × (r < get_or t a 0) × (get_or ai r 0 ≡ c) →
          (r : ℕ) × (get_or ap' a 0 ≤ r) × (r < get_or (set t j (q + 1)) a 0) × (get_or ai r 0 ≡ c)
      still a c f = let x = f.2 in let w = onward a in (f.0, f.1, omega (arith, x, w), f.3)

      -- a place before a pointer was before it, or is the one of the mirror
      new_or_old : (a r : ℕ) → r < get_or (set t j (q + 1)) a 0 → (r < get_or t a 0) ⊎ ((a ≡ j) × (r ≡ q))
      new_or_old a r y = elim (cases_eq a j) [
        | inr ne ↦ inl (let w = there a ne in omega (arith, w, y))
        | inl e ↦ elim (cases_lt r (get_or t a 0)) [
          | inl z ↦ inl z
          | inr z ↦ (let h = ap (λ b. get_or (set t j (q + 1)) b 0) e in let v = ap (λ b. get_or t b 0) e in
              inr (e, omega (arith, here, at, h, v, y, z)))
        ]
      ]

      from : get_or ap' j 0 ≤ q
      from = let w = so.start j up in omega (arith, w, at)

      pub mirrors_next : HaveMirrors n ap' ai (set t j (q + 1)) k (j + 1)
      mirrors_next = record {
        size = length-set t j (q + 1) ∙ so.size;
        start = λ a l. (let w = so.start a l in let v = onward a in omega (arith, w, v));
        stop = λ a l. elim (cases_eq a j) [
          | inr ne ↦ (let w = there a ne in let v = so.stop a l in omega (arith, w, v))
          | inl e ↦ subst (λ z. get_or (set t j (q + 1)) z 0 ≤ get_or ap' (z + 1) 0) (sym e) (omega (arith, here, inside))
        ];
        low = λ a r l x y. so.low a r l (let v = onward a in omega (arith, x, v)) y;
        passed = λ a r l x y. elim (new_or_old a r y) [
          | inl z ↦ elim (so.passed a r l x z) [
            | inl low ↦ inl low
            | inr read ↦ inr (elim read [ inl w ↦ inl w | inr w ↦ inr (let v = w.1 in (w.0, omega (arith, v, low))) ])
          ]
          | inr z ↦ inr (inr (ap (λ b. get_or ai b 0) z.1 ∙ is, (let e = z.0 in omega (arith, e))))
        ];
        behind = λ a r l x y. elim (new_or_old a r y) [
          | inl z ↦ so.behind a r l x z
          | inr z ↦ inr (subst (λ b. is_entry n ap' ai b (get_or ai r 0) ≡ true) (sym z.0) (subst (λ z. is_entry n ap' ai j z ≡ true)
              (sym (ap (λ b. get_or ai b 0) z.1 ∙ is)) entry))
        ];
        found = λ a c l z e. elim z [
          | inl x ↦ still a c (so.found a c l (inl x) e)
          | inr x ↦ (let same = x.0 in let below = x.1 in elim (cases_lt a m) [
            | inl y ↦ still a c (so.found a c l (inr (same, y)) e)
            | inr y ↦ (let least = gap a y (subst (λ b. is_entry n ap' ai a b ≡ true) same e) in
                let own : a ≡ j = omega (arith, least, below) in let h = ap (λ b. get_or (set t j (q + 1)) b 0) own in
                let p = ap (λ b. get_or ap' b 0) own in (q, omega (arith, from, p), omega (arith, here, h), is ∙ sym same))
          ])
        ];
      }

    -- no upper entry of column k is left
    pub mirrors_over : m ≤ k → ((a : ℕ) → m ≤ a → a < k → is_entry n ap' ai a k ≡ true → ⊥) → HaveMirrors n ap' ai t k k
    mirrors_over low none = record {
      size = so.size;
      start = so.start;
      stop = so.stop;
      low = so.low;
      passed = λ a r l x y. elim (so.passed a r l x y) [
        | inl z ↦ inl z
        | inr z ↦ inr (elim z [ inl w ↦ inl w | inr w ↦ inr (let v = w.1 in (w.0, omega (arith, v, low))) ])
      ];
      behind = so.behind;
      found = λ a c l z e. elim z [
        | inl x ↦ so.found a c l (inl x) e
        | inr x ↦ (let same = x.0 in let below = x.1 in elim (cases_lt a m) [
          | inl y ↦ so.found a c l (inr (same, y)) e
          | inr y ↦ absurd (none a y below (subst (λ b. is_entry n ap' ai a b ≡ true) same e))
        ])
      ];
    }

  -- column k is over
  module _ (t : List ℕ) (k : ℕ) (so : HaveMirrors n ap' ai t k k) (p : ℕ) (from : get_or ap' k 0 ≤ p)
      (to : p ≤ get_or ap' (k + 1) 0) (low : (r : ℕ) → get_or ap' k 0 ≤ r → r < p → get_or ai r 0 ≤ k)
      (high : (r : ℕ) → p ≤ r → r < get_or ap' (k + 1) 0 → k < get_or ai r 0) where
    new : get_or (t ++ p ∷ []) k 0 ≡ p
    new = get_or_push t p 0 k so.size

    old : (a : ℕ) → a < k → get_or (t ++ p ∷ []) a 0 ≡ get_or t a 0
    old a l = get_or_append_left t (p ∷ []) 0 a (let s = so.size in omega (arith, s, l))

    -- a row before the new pointer
    own_low : (a r : ℕ) → a < k + 1 → k ≤ a → get_or ap' a 0 ≤ r → r < get_or (t ++ p ∷ []) a 0 → get_or ai r 0 ≤ a
    own_low a r l z x y =
        let same : a ≡ k = omega (arith, l, z) in let v = ap (λ b. get_or (t ++ p ∷ []) b 0) same in
        let u = ap (λ b. get_or ap' b 0) same in let w = low r (omega (arith, u, x)) (omega (arith, v, new, y)) in
        omega (arith, w, same)

    pub mirrors_push : HaveMirrors n ap' ai (t ++ p ∷ []) (k + 1) 0
    mirrors_push = record {
      size = length_push t p ∙ ap (λ z. z + 1) so.size;
      start = λ a l. elim (cases_lt a k) [
        | inl x ↦ (let w = old a x in let v = so.start a x in omega (arith, w, v))
        | inr x ↦ (let same : k ≡ a = omega (arith, l, x) in
            subst (λ z. get_or ap' z 0 ≤ get_or (t ++ p ∷ []) z 0) same (omega (arith, new, from)))
      ];
      stop = λ a l. elim (cases_lt a k) [
        | inl x ↦ (let w = old a x in let v = so.stop a x in omega (arith, w, v))
        | inr x ↦ (let same : k ≡ a = omega (arith, l, x) in
            subst (λ z. get_or (t ++ p ∷ []) z 0 ≤ get_or ap' (z + 1) 0) same (omega (arith, new, to)))
      ];
      low = λ a r l x y. elim (cases_lt a k) [
        | inl z ↦ so.low a r z (let w = old a z in omega (arith, w, x)) y
        | inr z ↦ (let same : a ≡ k = omega (arith, l, z) in let v = ap (λ b. get_or (t ++ p ∷ []) b 0) same in
            let u = ap (λ b. get_or ap' (b + 1) 0) same in let w = high r (omega (arith, v, new, x)) (omega (arith, u, y)) in
            omega (arith, w, same))
      ];
      passed = λ a r l x y. elim (cases_lt a k) [
        | inl z ↦ elim (so.passed a r z x (let w = old a z in omega (arith, w, y))) [
          | inl h ↦ inl h
          | inr h ↦ inr (inl (elim h [ inl v ↦ omega (arith, v) | inr v ↦ (let u = v.0 in omega (arith, u)) ]))
        ]
        | inr z ↦ inl (own_low a r l z x y)
      ];
      behind = λ a r l x y. elim (cases_lt a k) [
        | inl z ↦ so.behind a r z x (let w = old a z in omega (arith, w, y))
        | inr z ↦ inl (own_low a r l z x y)
      ];
      found = λ a c l z e. elim z [
        | inr x ↦ (let u = x.1 in absurd (omega (arith, u)))
        | inl x ↦ (let f = so.found a c l (elim (cases_lt c k) [
          | inl y ↦ inl y
          | inr y ↦ inr (let same : c ≡ k = omega (arith, x, y) in (same, omega (arith, l, same)))
        ]) e in let y = f.2 in let w = old a (omega (arith, l, x)) in (f.0, f.1, omega (arith, y, w), f.3))
      ];
    }

  -- the number of other rows of column k
  pub others_push : (numbers : List ℕ) (k others : ℕ) → CountOthers n ap' ai k numbers → others ≡ count_below n (is_beside n ap' ai k) →
      CountOthers n ap' ai (k + 1) (numbers ++ others ∷ [])
  others_push numbers k others so is = record {
    size = length_push numbers others ∙ ap (λ z. z + 1) so.size;
    each = λ j l. elim (cases_lt j k) [
      | inl x ↦ get_or_append_left numbers (others ∷ []) 0 j (let s = so.size in omega (arith, s, x)) ∙ so.each j x
      | inr x ↦ (let same : k ≡ j = omega (arith, l, x) in subst (λ z. get_or (numbers ++ others ∷ []) z 0 ≡ count_below n
          (is_beside n ap' ai z)) same (get_or_push numbers others 0 k so.size ∙ is))
    ];
  }

  module _ (form : IsSortedForm n ap' ai) where
    -- a column has one more row where it has a diagonal entry
    pub others_count : (k : ℕ) → k < n →
        get_or ap' (k + 1) 0 - get_or ap' k 0 ≡ count_below n (is_beside n ap' ai k) + one_if (is_entry n ap' ai k k)
    unfolding is_beside off
    others_count k k_in = let all = column_count n ap' ai form k k_in in let off = off_count n (is_entry n ap' ai) k k_in in
        omega (arith, all, off)

    -- column k, whose upper entries end at the place p
    module _ (k p : ℕ) (k_in : k < n) (over : EndsUpper ap' ai k p) where
      -- without a diagonal entry, the rows that are not above it are below it
      behind_missed : (p < get_or ap' (k + 1) 0 → get_or ai p 0 ≢ k) → (r : ℕ) → p ≤ r → r < get_or ap' (k + 1) 0 → k < get_or ai r 0
      behind_missed ne r x y =
          let inside : p < get_or ap' (k + 1) 0 = omega (arith, x, y) in let high = over.behind inside in let other = ne inside in
          let from = over.from in elim (cases_eq p r) [
            | inl same ↦ (let w = ap (λ b. get_or ai b 0) same in omega (arith, w, high, other))
            | inr apart ↦ (let w = form.ascend k p r k_in from (omega (arith, x, apart)) y in omega (arith, w, high))
          ]

      missed : (p < get_or ap' (k + 1) 0 → get_or ai p 0 ≢ k) → is_entry n ap' ai k k ≡ false
      missed ne = entry_none ap' ai n k k (λ q h x y e. let from = over.from in elim (cases_lt q p) [
        | inl z ↦ (let w = over.before q x z in omega (arith, w, e))
        | inr z ↦ (let high = over.behind (omega (arith, z, y)) in elim (cases_eq p q) [
          | inl same ↦ ne (omega (arith, same, y)) (ap (λ b. get_or ai b 0) same ∙ e)
          | inr other ↦ (let w = form.ascend k p q k_in from (omega (arith, z, other)) y in omega (arith, w, e, high))
        ])
      ])

      -- its diagonal entry, if it has one, is read too
      module _ (t : List ℕ) (so : HaveMirrors n ap' ai t k k) (place others : ℕ) where
        pub column_with : p < get_or ap' (k + 1) 0 → get_or ai p 0 ≡ k → place ≡ p + 1 →
            others ≡ get_or ap' (k + 1) 0 - get_or ap' k 0 - 1 →
            HaveMirrors n ap' ai (t ++ place ∷ []) (k + 1) 0 × (others ≡ count_below n (is_beside n ap' ai k))
            × (true ≡ is_entry n ap' ai k k)
        column_with inside is place_is others_is =
            let from = over.from in let yes' = entry_from ap' ai n k k p k_in from inside is in
            let all = others_count k k_in in let one = ap one_if yes' in (
              mirrors_push t k so place (omega (arith, from, place_is)) (omega (arith, inside, place_is)) (λ r x y. elim (cases_lt r p) [
                | inl z ↦ (let w = over.before r x z in omega (arith, w))
                | inr z ↦ (let w = ap (λ b. get_or ai b 0) (let same : r ≡ p = omega (arith, z, y, place_is) in same) in
                    omega (arith, w, is))
              ]) (λ r x y. let w = form.ascend k p r k_in from (omega (arith, x, place_is)) y in omega (arith, w, is)),
              omega (arith, others_is, all, one),
              sym yes',
            )

        pub column_without : (p < get_or ap' (k + 1) 0 → get_or ai p 0 ≢ k) → place ≡ p →
            others ≡ get_or ap' (k + 1) 0 - get_or ap' k 0 →
            HaveMirrors n ap' ai (t ++ place ∷ []) (k + 1) 0 × (others ≡ count_below n (is_beside n ap' ai k))
            × (false ≡ is_entry n ap' ai k k)
        column_without ne place_is others_is =
            let from = over.from in let no' = missed ne in let all = others_count k k_in in let none = ap one_if no' in (
              mirrors_push t k so place (omega (arith, from, place_is)) (let to = over.to in omega (arith, to, place_is))
                  (λ r x y. let w = over.before r x (omega (arith, y, place_is)) in omega (arith, w))
                  (λ r x y. behind_missed ne r (omega (arith, x, place_is)) y),
              omega (arith, others_is, all, none),
              sym no',
            )

  -- where each entry has a mirror, the other rows of a column are the neighbours of its row
  pub others_are : HasMirrors n ap' ai → (numbers : List ℕ) →
      CountOthers n ap' ai n numbers → AreCounts (count_graph n ap' ai) (is_edge n ap' ai) numbers
  unfolding is_beside is_edge
  others_are mirror numbers so = record {
    size = so.size;
    each = λ j l. so.each j l ∙ count_same n _ _ (λ i h. ap (λ b. not (eqb j i) && b) (one_way (is_entry n ap' ai j i)
        (is_entry n ap' ai i j) (mirror j i)));
  }
    where
      one_way : (x y : Bool) → (x ≡ true → y ≡ true) → y ≡ (x || y)
      one_way true y f = f refl
      one_way false y f = refl
