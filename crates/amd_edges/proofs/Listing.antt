-- The lists of the arcs of each row, one arc more.
use Rattle.std.proofs.Common.{◌≡◌, ◌≢◌, ◌+◌, ◌-◌, ◌<◌, ◌≤◌, ◌⊎◌, inl, inr, ℕ, zero, suc, Bool, true, false, List, length, get_or, take}
use Rattle.std.proofs.Common.{drop, length-drop, set, get_or-set_same, get_or-set_other, arith, refl, ap, sym, ◌∙◌, subst, eqb, ◌++◌, ◌∷◌}
use Rattle.std.proofs.Common.{[]}
use Rattle.std.proofs.lemmas.Bool.{or_cases, or_left, or_right, cases_eq, cases_lt, true≢false, eqb-true, eq-eqb}
use Rattle.std.specs.Prelude.{slice_range}
use Rattle.std.proofs.lemmas.List.{length-set, get_or_append_left, get_or_push, drop-set-lt, drop-set-add, take-set-le, take_more_set}
use Rattle.amd_model.specs.Below.{sum_below, count_below}
use Rattle.amd_model.specs.Graph.{Graph}
use Rattle.amd_model.proofs.Counting.Below.{sum_same, count_mono, count_none}
use Rattle.amd_edges.specs.Visits.{IsNew, with_arc, AreCounts, AreLists, start_of, ends_of}
use Rattle.amd_edges.proofs.Arcs.{arc_same, arc_here, arc_counts, arc_room}
use Rattle.amd_edges.proofs.Orders.{ends_same, ends_other}

start_next : (g : Graph) (i : ℕ) → start_of g (suc i) ≡ start_of g i + count_below g.size (g.edge i)
unfolding start_of sum_below
start_next g i = omega arith

start_stretch : (g : Graph) (i d : ℕ) → start_of g i ≤ start_of g (i + d)
start_stretch g i zero = (let e : i + 0 ≡ i = omega arith in rw e (omega arith))
start_stretch g i (suc d) = (let e : i + suc d ≡ suc (i + d) = omega arith in let w = start_stretch g i d in let n = start_next g (i + d) in
    rw e (omega (arith, w, n)))

pub start_later : (g : Graph) (i j : ℕ) → i < j → start_of g i + count_below g.size (g.edge i) ≤ start_of g j
start_later g i j h = (let e : suc i + (j - suc i) ≡ j = omega arith in let w : start_of g (suc i) ≤ start_of g j =
    subst (λ z. start_of g (suc i) ≤ start_of g z) e (start_stretch g (suc i) (j - suc i)) in let n = start_next g i in omega (arith, w, n))

-- a stretch of a list, where a number is written behind it, and where it is written outside
stretch_more : (rows : List ℕ) (s e j : ℕ) → s ≤ e → e < length rows → slice_range (set rows e j) s (e + 1) ≡ slice_range rows s e ++ j ∷ []
stretch_more rows s e j low high =
    let at : s + (e - s) ≡ e = omega arith in
    let long : e + 1 - s ≡ e - s + 1 = omega arith in
    let within : e - s < length (drop s rows) = (let l = length-drop s rows in omega (arith, l)) in
    let moved : drop s (set rows e j) ≡ set (drop s rows) (e - s) j =
    subst (λ x. drop s (set rows x j) ≡ set (drop s rows) (e - s) j) at (drop-set-add s rows (e - s) j) in
    rw (moved, long) (take_more_set (drop s rows) (e - s) j within)

pub stretch_same : (rows : List ℕ) (s e v j : ℕ) → (v < s) ⊎ (e ≤ v) → slice_range (set rows v j) s e ≡ slice_range rows s e
stretch_same rows s e v j (inl x) = ap (take (e - s)) (drop-set-lt s rows v j x)
stretch_same rows s e v j (inr x) = elim (cases_lt v s) [
  | inl y ↦ ap (take (e - s)) (drop-set-lt s rows v j y)
  | inr y ↦ (let at : s + (v - s) ≡ v = omega arith in
      let moved : drop s (set rows v j) ≡ set (drop s rows) (v - s) j =
      subst (λ x. drop s (set rows x j) ≡ set (drop s rows) (v - s) j) at (drop-set-add s rows (v - s) j) in
      ap (take (e - s)) moved ∙ take-set-le (e - s) (drop s rows) (v - s) j (omega arith))
]

module _ (g : Graph) (seen : ℕ → ℕ → Bool) (arcs : List (ℕ × ℕ)) (i j : ℕ) (new : IsNew g seen i j) (next rows : List ℕ)
    (h : AreLists g seen arcs next rows) where
  -- each list ends before the next one starts
  ends_before : (a : ℕ) → a < g.size → get_or next a 0 ≤ start_of g a + count_below g.size (g.edge a)
  ends_before a x = (let e = h.ends a x in let m = count_mono g.size (seen a) (g.edge a) (λ k l y. new.within a k y) in omega (arith, e, m))

  pub place_room : get_or next i 0 + 1 ≤ start_of g i + count_below g.size (g.edge i)
  place_room = (let e = h.ends i new.i_row in let r = arc_room g seen i j new in omega (arith, e, r))

  pub place_in : get_or next i 0 < length rows
  place_in = (let a = place_room in let b = start_later g i g.size new.i_row in let c = h.room in omega (arith, a, b, c))

  -- a place in the list of another row is another place
  apart : (a q : ℕ) → a < g.size → a ≢ i → start_of g a ≤ q → q < get_or next a 0 → q ≢ get_or next i 0
  apart a q x ne low high same =
      let e = ends_before a x in let r = place_room in let f = h.ends i new.i_row in
      elim (cases_lt a i) [
        | inl y ↦ (let w = start_later g a i y in omega (arith, e, r, f, w, low, high, same))
        | inr y ↦ (let w = start_later g i a (omega arith) in omega (arith, e, r, f, w, low, high, same))
      ]

  module _ (value : ℕ) (is : value ≡ get_or next i 0) where
    next_here : get_or (set next i (value + 1)) i 0 ≡ get_or next i 0 + 1
    next_here = get_or-set_same next i (value + 1) 0 (let s = h.size in let r = new.i_row in omega arith) ∙ ap (λ x. x + 1) is

    next_other : (a : ℕ) → a ≢ i → get_or (set next i (value + 1)) a 0 ≡ get_or next a 0
    next_other a ne = get_or-set_other next i a (value + 1) 0 ne

    row_here : get_or (set rows value j) (get_or next i 0) 0 ≡ j
    row_here = rw is (get_or-set_same rows (get_or next i 0) j 0 place_in)

    row_other : (q : ℕ) → q ≢ get_or next i 0 → get_or (set rows value j) q 0 ≡ get_or rows q 0
    row_other q ne = get_or-set_other rows value q j 0 (λ e. ne (e ∙ is))

    -- a place of a list after the step is an old one, or the new one
    old_or_new : (a q : ℕ) → a < g.size → start_of g a ≤ q → q < get_or (set next i (value + 1)) a 0 →
        ((q < get_or next a 0) × (q ≢ get_or next i 0)) ⊎ ((a ≡ i) × (q ≡ get_or next i 0))
    old_or_new a q x low high = elim (cases_eq a i) [
      | inr ne ↦ (let w = rw (next_other a ne) at high in inl (w, apart a q x ne low w))
      | inl same ↦ (let w = rw (same, next_here) at high in elim (cases_eq q (get_or next i 0)) [
        | inl e ↦ inr (same, e)
        | inr ne ↦ inl (rw same (omega arith), ne)
      ])
    ]

    -- the list of another row stays away from the place
    outside : (a : ℕ) → a < g.size → a ≢ i → (get_or next i 0 < start_of g a) ⊎ (get_or next a 0 ≤ get_or next i 0)
    outside a x ne =
        let e = ends_before a x in let r = place_room in let f = h.ends i new.i_row in
        elim (cases_lt a i) [
          | inl y ↦ (let w = start_later g a i y in inr (omega (arith, e, f, w)))
          | inr y ↦ (let w = start_later g i a (omega arith) in inl (omega (arith, r, w)))
        ]

    pub lists_more : AreLists g (with_arc seen i j) (arcs ++ (i, j) ∷ []) (set next i (value + 1)) (set rows value j)
    lists_more = record {
      size = length-set next i _ ∙ h.size;
      room = (let l = length-set rows value j in let r = h.room in omega (arith, l, r));
      ends = λ a x. elim (cases_eq a i) [
        | inl e ↦ rw (e, next_here) (let y = h.ends i new.i_row in let z = arc_counts g seen i j new in omega (arith, y, z))
        | inr e ↦ next_other a e ∙ h.ends a x ∙ ap (λ f. start_of g a + count_below g.size f) (sym (arc_same seen i j a e))
      ];
      named = λ a q x low high. elim (old_or_new a q x low high) [
        | inl o ↦ rw (row_other q o.1) (kept a _ (h.named a q x low o.0))
        | inr n ↦ rw (n.0, n.1, row_here) (arc_here seen i j j ∙ or_right (seen i j) (eqb j j) (eq-eqb j j refl))
      ];
      found = λ a b x y e. elim (cases_eq a i) [
        | inr ne ↦ (let s : seen a b ≡ true = ap (λ f. f b) (sym (arc_same seen i j a ne)) ∙ e in old a b x y s)
        | inl same ↦ elim (or_cases (seen i b) (eqb b j) (sym (arc_here seen i j b) ∙ rw same at e)) [
          | inl s ↦ old a b x y (rw same s)
          | inr s ↦ (
            get_or next i 0,
            (let f = h.ends i new.i_row in rw same (omega (arith, f))),
            rw (same, next_here) (omega arith),
            row_here ∙ sym (eqb-true b j s),
          )
        ]
      ];
      once = λ a q r x low lt high. elim (old_or_new a r x (omega arith) high) [
        | inl o ↦ (let o0 = o.0 in elim (old_or_new a q x low (omega (arith, lt, high))) [
          | inl p ↦ (λ e. h.once a q r x low lt o0 (sym (row_other q p.1) ∙ e ∙ row_other r o.1))
          | inr p ↦ (let p1 = p.1 in let o2 = rw p.0 at o0 in absurd (omega arith))
        ])
        | inr o ↦ (λ e. let o1 = o.1 in
            let q_old : q < get_or next i 0 = omega arith in
            let s = h.named i q new.i_row (rw o.0 at low) q_old in
            let w : get_or rows q 0 ≡ j = sym (row_other q (λ z. omega arith)) ∙ e ∙ rw o1 row_here in
            true≢false (sym (rw w at s) ∙ new.fresh))
      ];
      order = λ a x. elim (cases_eq a i) [
        | inl e ↦ (let f = h.ends i new.i_row in let more = stretch_more rows (start_of g i) (get_or next i 0) j (omega (arith, f)) place_in
            in
            rw (e, next_here, is) (more ∙ ap (λ l. l ++ j ∷ []) (h.order i new.i_row) ∙ sym (ends_same i j arcs)))
        | inr e ↦ rw (next_other a e, is) (stretch_same rows (start_of g a) (get_or next a 0) (get_or next i 0) j (outside a x e) ∙
            h.order a x ∙ sym (ends_other a i j arcs e))
      ];
    }
      where
        kept : (a b : ℕ) → seen a b ≡ true → with_arc seen i j a b ≡ true
        kept a b e = elim (cases_eq a i) [
          | inl same ↦ rw same (arc_here seen i j b ∙ or_left (seen i b) (eqb b j) (rw same at e))
          | inr ne ↦ ap (λ f. f b) (arc_same seen i j a ne) ∙ e
        ]

        old : (a b : ℕ) → a < g.size → b < g.size → seen a b ≡ true → (q : ℕ) × (start_of g a ≤ q)
            × (q < get_or (set next i (value + 1)) a 0) × (get_or (set rows value j) q 0 ≡ b)
        old a b x y e = (let f = h.found a b x y e in
            let ne : f.0 ≢ get_or next i 0 = elim (cases_eq a i) [
              | inl same ↦ (let u : f.0 < get_or next i 0 = subst (λ z. f.0 < get_or next z 0) same f.2 in λ z. omega arith)
              | inr other ↦ apart a f.0 x other f.1 f.2
            ] in
            let up : get_or next a 0 ≤ get_or (set next i (value + 1)) a 0 =
            elim (cases_eq a i) [ inl same ↦ rw (same, next_here) (omega arith) | inr other ↦ rw (next_other a other) (omega arith) ] in
            (f.0, f.1, (let f2 = f.2 in omega (arith, f2, up)), row_other f.0 ne ∙ f.3))

pub lists_none : (g : Graph) (next rows : List ℕ) → length next ≡ g.size → start_of g g.size ≤ length rows →
    ((i : ℕ) → i < g.size → get_or next i 0 ≡ start_of g i) → AreLists g (λ a b. false) [] next rows
unfolding ends_of
lists_none g next rows size room each = record {
  size = size;
  room = room;
  ends = λ i h. (let e = each i h in let z = count_none g.size in omega (arith, e, z));
  named = λ i q h low high. (let e = each i h in absurd (omega (arith, e, low, high)));
  found = λ i j x y e. absurd (true≢false (sym e));
  once = λ i q r h low lt high. (let e = each i h in absurd (omega (arith, e, low, lt, high)));
  order = λ i h. (let e = each i h in let none : get_or next i 0 - start_of g i ≡ 0 = omega (arith, e) in rw none refl);
}

-- sums of degrees
pub start_sums : (g : Graph) (degrees : List ℕ) → AreCounts g g.edge degrees → (i : ℕ) → i ≤ g.size →
    sum_below i (λ a. get_or degrees a 0) ≡ start_of g i
unfolding start_of
start_sums g degrees h i up = sum_same i _ _ (λ k l. h.each k (omega arith))

-- one start more
pub starts_more : (next degrees : List ℕ) (i total : ℕ) → length next ≡ i →
    ((a : ℕ) → a < i → get_or next a 0 ≡ sum_below a (λ b. get_or degrees b 0)) → total ≡ sum_below i (λ b. get_or degrees b 0) →
    (a : ℕ) → a < i + 1 → get_or (next ++ total ∷ []) a 0 ≡ sum_below a (λ b. get_or degrees b 0)
starts_more next degrees i total size each is a h = elim (cases_lt a i) [
  | inl x ↦ get_or_append_left next (total ∷ []) 0 a (omega arith) ∙ each a x
  | inr x ↦ (let e : a ≡ i = omega arith in rw e (get_or_push next total 0 i size ∙ is))
]
