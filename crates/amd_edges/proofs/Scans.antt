-- Steps of the walk.
use Rattle.std.proofs.Common.{ap, ◌≡◌, ◌≢◌, ◌+◌, ◌<◌, ◌≤◌, ◌⊎◌, inl, inr, ℕ, Bool, true, false, List, length, get_or, set, get_or-set_same}
use Rattle.std.proofs.Common.{get_or-set_other, arith, refl, sym, ◌∙◌, cond, eqb, ltb, ◌||◌, ◌&&◌, not}
use Rattle.std.proofs.Math.Bool.{and_comm, or_comm}
use Rattle.std.proofs.lemmas.Bool.{and_parts, or_cases, and_from, or_left, or_right, cases_eq, cases_lt, eqb-true, ltb-true, eq-eqb, lt-ltb}
use Rattle.std.proofs.lemmas.Bool.{le-ltb, ne_eqb, false_from_ne_true}
use Rattle.std.proofs.lemmas.List.{length-set, get_or_past, set-get_or}
use Rattle.amd_edges.specs.Visits.{with_arc, IsNew, IsNewEdge}
use Rattle.amd_edges.proofs.Forms.{IsSortedForm}
use Rattle.amd_types.specs.Naturals.{is_before, is_entry, is_edge, count_graph}
use Rattle.amd_edges.specs.Walk.{IsScan, IsReached, is_read, is_met, met}
use Rattle.amd_edges.proofs.Places.{funext2, before_gives, before_none, before_more, entry_from}

-- both arcs of an edge are new where one half of the set gains the test x, which passes one of them
pub both_arcs : (h h' x : ℕ → ℕ → Bool) (i j : ℕ) → ((a b : ℕ) → h' a b ≡ (h a b || x a b)) →
    ((a b : ℕ) → (x a b || x b a) ≡ ((eqb a i && eqb b j) || (eqb a j && eqb b i))) →
    with_arc (with_arc (λ a b. h a b || h b a) i j) j i ≡ (λ a b. h' a b || h' b a)
unfolding with_arc
both_arcs h h' x i j e f = funext2 _ _ (λ a b. rw (e a b, e b a) (mix (h a b) (h b a) _ _ (x a b) (x b a) (f a b)))
  where
    mix : (p q u v r s : Bool) → (r || s) ≡ (u || v) → (((p || q) || u) || v) ≡ ((p || r) || (q || s))
    mix true q u v r s e = refl
    mix false true u v true s e = refl
    mix false true u v false s e = refl
    mix false false u v true s e = sym e
    mix false false u v false s e = sym e

apart : (a b : ℕ) → a ≢ b → not (eqb a b) ≡ true
apart a b ne = rw (ne_eqb a b ne) refl

module _ (n : ℕ) (ap' ai : List ℕ) (form : IsSortedForm n ap' ai) where
  -- a half where the pointer of column j has passed the row i
  pub half_lower : (t u : List ℕ) (k m j i q : ℕ) → get_or t j 0 ≡ q → get_or u j 0 ≡ q + 1 →
      ((a : ℕ) → a ≢ j → get_or u a 0 ≡ get_or t a 0) →
      j < i → get_or ap' j 0 ≤ q → get_or ai q 0 ≡ i → is_entry n ap' ai j i ≡ false →
      (a b : ℕ) → is_met n ap' ai u k m a b ≡ is_met n ap' ai t k m a b || (eqb a j && eqb b i)
  unfolding is_met
  half_lower t u k m j i q et eu other up low e never a b = elim (cases_eq a j) [
    | inr ne ↦ rw (other a ne, ne_eqb a j ne) (or_false _)
    | inl same ↦ rw (same, eu, et, before_more ap' ai q i j b low e, eq-eqb j j refl) (elim (cases_eq b i) [
      | inl here ↦ rw (here, never, lt-ltb j i up, eq-eqb i i refl) (or_ends _)
      | inr there ↦ rw (ne_eqb b i there) (no_more (ltb j b) (is_entry n ap' ai j b) (is_read k m j b) (is_before ap' ai q b j))
    ])
  ]
    where
      or_false : (x : Bool) → x ≡ x || false
      or_false true = refl
      or_false false = refl

      or_ends : (x : Bool) → (x || true) ≡ (x || true)
      or_ends x = refl

      no_more : (x p r s : Bool) → (x && cond p r (s || false)) ≡ (x && cond p r s) || false
      no_more true true true s = refl
      no_more true true false s = refl
      no_more true false r true = refl
      no_more true false r false = refl
      no_more false p r s = refl

  -- the arcs of the entry (i, j) of the lower part, which has no mirror
  pub lower_meets : (t u : List ℕ) (k m j i q : ℕ) → get_or t j 0 ≡ q → get_or u j 0 ≡ q + 1 →
      ((a : ℕ) → a ≢ j → get_or u a 0 ≡ get_or t a 0) →
      j < i → get_or ap' j 0 ≤ q → get_or ai q 0 ≡ i → is_entry n ap' ai j i ≡ false →
      with_arc (with_arc (met n ap' ai t k m) i j) j i ≡ met n ap' ai u k m
  unfolding met
  lower_meets t u k m j i q et eu other up low e never =
      both_arcs (is_met n ap' ai t k m) (is_met n ap' ai u k m) (λ a b. eqb a j && eqb b i) i j
      (half_lower t u k m j i q et eu other up low e never)
      (λ a b. or_comm (eqb a j && eqb b i) _ ∙ ap (λ y. y || (eqb a j && eqb b i)) (and_comm (eqb b j) (eqb a i)))

  -- the entry (k, j) of the lower part, which has a mirror
  pub mirror_meets : (t u : List ℕ) (k m j q : ℕ) → get_or t j 0 ≡ q → get_or u j 0 ≡ q + 1 →
      ((a : ℕ) → a ≢ j → get_or u a 0 ≡ get_or t a 0) →
      get_or ap' j 0 ≤ q → get_or ai q 0 ≡ k → is_entry n ap' ai j k ≡ true →
      met n ap' ai u k m ≡ met n ap' ai t k m
  unfolding met is_met
  mirror_meets t u k m j q et eu other low e mirror = funext2 _ _ (λ a b. rw (half a b, half b a) refl)
    where
      or_false : (x : Bool) → x || false ≡ x
      or_false true = refl
      or_false false = refl

      half : (a b : ℕ) → is_met n ap' ai u k m a b ≡ is_met n ap' ai t k m a b
      half a b = elim (cases_eq a j) [
        | inr ne ↦ rw (other a ne) refl
        | inl same ↦ rw (same, eu, et, before_more ap' ai q k j b low e) (elim (cases_eq b k) [
          | inl here ↦ rw (here, mirror) refl
          | inr there ↦ rw (ne_eqb b k there, or_false (is_before ap' ai q b j)) refl
        ])
      ]

  -- the pointers of all columns stay within the columns
  pub in_column : (t : List ℕ) (k m : ℕ) → IsScan n ap' ai t k m → (a : ℕ) → a < n → get_or t a 0 ≤ get_or ap' (a + 1) 0
  in_column t k m s a h = elim (cases_lt a k) [ inl x ↦ s.stop a x h | inr x ↦ (let z = s.unset a x in omega arith) ]

  -- each arc that was met is one of the graph
  pub met_within : (t : List ℕ) (k m : ℕ) → length t ≤ n → ((a : ℕ) → a < n → get_or t a 0 ≤ get_or ap' (a + 1) 0) →
      (a b : ℕ) → met n ap' ai t k m a b ≡ true → is_edge n ap' ai a b ≡ true
  unfolding met is_met is_edge
  met_within t k m size inside a b e = elim (or_cases _ _ e) [
    | inl x ↦ (let h = half a b x in and_from (not (eqb a b)) _ (apart a b h.0)
        (elim h.1 [ inl y ↦ or_left _ _ y | inr y ↦ or_right _ _ y ]))
    | inr x ↦ (let h = half b a x in and_from (not (eqb a b)) _ (apart a b (λ w. h.0 (sym w)))
        (elim h.1 [ inl y ↦ or_right _ _ y | inr y ↦ or_left _ _ y ]))
  ]
    where
      choose : (p r s : Bool) → cond p r s ≡ true → (p ≡ true) ⊎ (s ≡ true)
      choose true r s h = inl refl
      choose false r s h = inr h

      half : (a b : ℕ) → is_met n ap' ai t k m a b ≡ true → (a ≢ b) × ((is_entry n ap' ai a b ≡ true) ⊎ (is_entry n ap' ai b a ≡ true))
      half a b h = let parts = and_parts _ _ h in (
        (let l = ltb-true a b parts.0 in λ w. omega arith),
        elim (choose _ _ _ parts.1) [
          | inl x ↦ inl x
          | inr x ↦ (let r = before_gives ap' ai _ b a x in inr (elim (cases_lt a n) [
            | inl here ↦ entry_from ap' ai n b a r.0 here r.1 (let w = inside a here in let z = r.2 in omega arith) r.3
            | inr past ↦ (let z : get_or t a 0 ≡ 0 = get_or_past t a 0 (omega arith) in let y = r.2 in absurd (omega arith))
          ]))
        ],
      )

  -- the arc of a lower entry at the pointer is new
  pub lower_fresh : (t : List ℕ) (k m j i q : ℕ) → get_or t j 0 ≡ q → j < n → j < i → q < get_or ap' (j + 1) 0 → get_or ai q 0 ≡ i →
      is_entry n ap' ai j i ≡ false →
      (met n ap' ai t k m i j ≡ false) × (met n ap' ai t k m j i ≡ false)
  unfolding met is_met
  lower_fresh t k m j i q et h up high e never =
      let none : is_before ap' ai q i j ≡ false = before_none ap' ai q i j
      (λ r low below same. let w = form.ascend j r q h low below high in omega arith) in
      rw (et, never, none, le-ltb i j (omega arith), lt-ltb j i up) (refl, refl)

  -- a pointer that moves stays within its column
  pub moved_in : (t : List ℕ) (k m j q : ℕ) → j < k → q ≤ get_or ap' (j + 1) 0 → IsScan n ap' ai t k m → (a : ℕ) → a < n →
      get_or (set t j q) a 0 ≤ get_or ap' (a + 1) 0
  moved_in t k m j q before to s a h = elim (cases_eq a j) [
    | inl same ↦ (let here : get_or (set t j q) j 0 ≡ q = get_or-set_same t j q 0 (let z = s.size in omega arith) in rw (same, here) to)
    | inr ne ↦ (let there : get_or (set t j q) a 0 ≡ get_or t a 0 = get_or-set_other t j a q 0 ne in rw there (in_column t k m s a h))
  ]

  -- a pointer that is set to where it stands
  pub met_still : (t : List ℕ) (k m j q : ℕ) → q ≡ get_or t j 0 → met n ap' ai t k m ≡ met n ap' ai (set t j q) k m
  met_still t k m j q is = ap (λ u. met n ap' ai u k m) (sym (ap (set t j) is ∙ set-get_or t j 0))

  -- what was reached stays so
  pub reached_on : (k m k2 m2 a b : ℕ) → ((c : ℕ) → (c < k) ⊎ ((c ≡ k) × (a < m)) → (c < k2) ⊎ ((c ≡ k2) × (a < m2))) →
      (b ≤ a) ⊎ IsReached n ap' ai k m a b → (b ≤ a) ⊎ IsReached n ap' ai k2 m2 a b
  reached_on k m k2 m2 a b f h = elim h [ inl x ↦ inl x | inr x ↦ inr (x.0, f x.0 x.1, x.2, x.3) ]

  -- column k has read the lower entries of column j up to the place q
  pub scan_swept : (t : List ℕ) (k j q : ℕ) → j < k → j < n → get_or t j 0 ≤ q → q ≤ get_or ap' (j + 1) 0 →
      (k < n → is_entry n ap' ai j k ≡ true) →
      ((r : ℕ) → get_or t j 0 ≤ r → r < q → get_or ai r 0 ≤ k) → ((r : ℕ) → q ≤ r → r < get_or ap' (j + 1) 0 → k < get_or ai r 0) →
      IsScan n ap' ai t k j → IsScan n ap' ai (set t j q) k (j + 1)
  scan_swept t k j q before h from to mirror behind rest s =
      let here : get_or (set t j q) j 0 ≡ q = get_or-set_same t j q 0 (let z = s.size in omega arith) in
      let there : (a : ℕ) → a ≢ j → get_or (set t j q) a 0 ≡ get_or t a 0 = λ a ne. get_or-set_other t j a q 0 ne in
      let grows : (a : ℕ) → get_or t a 0 ≤ get_or (set t j q) a 0 =
      λ a. elim (cases_eq a j) [ inl x ↦ rw (x, here) from | inr x ↦ (let z = there a x in omega arith) ] in
      let later : (a c : ℕ) → (c < k) ⊎ ((c ≡ k) × (a < j)) → (c < k) ⊎ ((c ≡ k) × (a < j + 1)) =
      λ a c x. elim x [ inl y ↦ inl y | inr y ↦ inr (y.0, (let z = y.1 in omega arith)) ] in
      record {
        size = length-set t j q ∙ s.size;
        start = λ a x y. (let z = s.start a x y in let w = grows a in omega arith);
        stop = λ a x y. moved_in t k j j q before to s a y;
        low = λ a r x y z w. s.low a r x y (let g = grows a in omega arith) w;
        unset = λ a x. (let w = there a (λ e. omega arith) in let v = s.unset a x in omega arith);
        passed = λ a c r x y z w low high le. elim z [
          | inl v ↦ (let g = grows a in let u = s.passed a c r x y (inl v) w low high le in omega arith)
          | inr v ↦ elim (cases_eq a j) [
            | inr ne ↦ (let g = grows a in let u = s.passed a c r x y (inr (v.0, (let d = v.1 in omega arith))) w low high le in
                omega arith)
            | inl same ↦ elim (cases_lt r q) [
              | inl g ↦ rw (same, here) g
              | inr g ↦ (let e = rest r g (rw same at high) in let u = v.0 in absurd (omega arith))
            ]
          ]
        ];
        reached = λ a r x low high. elim (cases_eq a j) [
          | inr ne ↦ reached_on k j k (j + 1) a (get_or ai r 0) (later a) (s.reached a r x low (rw (there a ne) at high))
          | inl same ↦ elim (cases_lt r (get_or t a 0)) [
            | inl g ↦ reached_on k j k (j + 1) a (get_or ai r 0) (later a) (s.reached a r x low g)
            | inr g ↦ inr (k, inr (refl, omega arith), λ y. rw same (mirror y), behind r (rw same at g) (rw (same, here) at high))
          ]
        ];
      }

  -- the two arcs of an entry (i, j) that was not met
  pub two_new : (seen : ℕ → ℕ → Bool) (i j : ℕ) → i < n → j < n → i ≢ j → is_entry n ap' ai i j ≡ true → seen i j ≡ false →
      seen j i ≡ false →
      ((a b : ℕ) → seen a b ≡ true → is_edge n ap' ai a b ≡ true) →
      IsNew (count_graph n ap' ai) seen i j × IsNew (count_graph n ap' ai) (with_arc seen i j) j i
  unfolding with_arc is_edge
  two_new seen i j hi hj ne pair fresh back inside =
      let there : is_edge n ap' ai i j ≡ true = and_from (not (eqb i j)) _ (apart i j ne) (or_left _ _ pair) in
      let here : is_edge n ap' ai j i ≡ true = and_from (not (eqb j i)) _ (apart j i (λ w. ne (sym w))) (or_right _ _ pair) in (
        record { i_row = hi; j_row = hj; edge = there; fresh = fresh; within = inside },
        record {
          i_row = hj;
          j_row = hi;
          edge = here;
          fresh = rw (back, ne_eqb j i (λ w. ne (sym w))) refl;
          within = λ a b h. elim (or_cases (seen a b) _ h) [
            | inl x ↦ inside a b x
            | inr x ↦ (let p = and_parts _ _ x in rw (eqb-true a i p.0, eqb-true b j p.1) there)
          ];
        },
      )

  module _ (t : List ℕ) (k j q : ℕ) (scan : IsScan n ap' ai t k j) (before : j < k) (k_in : k ≤ n) (from : get_or t j 0 ≤ q) where
    -- the row at the place
    module _ (i : ℕ) (is : i ≡ get_or ai q 0) (to : q < get_or ap' (j + 1) 0) where
      lower_never : i < k → is_entry n ap' ai j i ≡ false
      lower_never below = false_from_ne_true _ (λ e.
          let up = scan.low j q before (omega arith) from to in
          let low = scan.start j before (omega arith) in
          let w = scan.passed j i q (omega arith) (omega arith) (inl below) (λ _. e) (omega arith) to (omega arith) in omega arith)

      pub lower_new : i < k →
          IsNewEdge (count_graph n ap' ai) (met n ap' ai (set t j q) k (j + 1)) i j
      lower_new below =
          let up = scan.low j q before (omega arith) from to in
          let low = scan.start j before (omega arith) in
          let never = lower_never below in
          let here : get_or (set t j q) j 0 ≡ q = get_or-set_same t j q 0 (let z = scan.size in omega arith) in
          let size = length-set t j q in
          let fresh = lower_fresh (set t j q) k (j + 1) j i q here (omega arith) (omega arith) to (sym is) never in
          let new = two_new _ i j (omega arith) (omega arith) (λ e. omega arith)
          (entry_from ap' ai n i j q (omega arith) (omega arith) to (sym is)) fresh.0 fresh.1
          (met_within (set t j q) k (j + 1) (let z = scan.size in omega arith) (moved_in t k j j q before (omega arith) scan)) in
          record { there = new.0; back = new.1 }

      pub lower_after : i < k → with_arc (with_arc (met n ap' ai (set t j q) k (j + 1)) i j) j i ≡ met n ap' ai (set t j (q + 1)) k (j + 1)
      lower_after below =
          let up = scan.low j q before (omega arith) from to in
          let low = scan.start j before (omega arith) in
          let here : get_or (set t j q) j 0 ≡ q = get_or-set_same t j q 0 (let z = scan.size in omega arith) in
          let next : get_or (set t j (q + 1)) j 0 ≡ q + 1 = get_or-set_same t j (q + 1) 0 (let z = scan.size in omega arith) in
          lower_meets (set t j q) (set t j (q + 1)) k (j + 1) j i q here next
          (λ a ne. get_or-set_other t j a (q + 1) 0 ne ∙ sym (get_or-set_other t j a q 0 ne)) (omega arith) (omega arith) (sym is)
          (lower_never below)

      -- the entry k itself is passed over
      pub lower_mirror : i ≡ k → (k < n → is_entry n ap' ai j k ≡ true) →
          met n ap' ai (set t j (q + 1)) k (j + 1) ≡ met n ap' ai (set t j q) k (j + 1)
      lower_mirror same mirror =
          let low = scan.start j before (omega arith) in
          let row = form.rows j q (omega arith) (omega arith) to in
          let here : get_or (set t j q) j 0 ≡ q = get_or-set_same t j q 0 (let z = scan.size in omega arith) in
          let next : get_or (set t j (q + 1)) j 0 ≡ q + 1 = get_or-set_same t j (q + 1) 0 (let z = scan.size in omega arith) in
          mirror_meets (set t j q) (set t j (q + 1)) k (j + 1) j q here next
          (λ a ne. get_or-set_other t j a (q + 1) 0 ne ∙ sym (get_or-set_other t j a q 0 ne)) (omega arith) (omega arith)
          (mirror (omega arith))

      pub lower_next : i ≡ k → (r : ℕ) → q + 1 ≤ r → r < get_or ap' (j + 1) 0 → k < get_or ai r 0
      lower_next same r x y =
          let low = scan.start j before (omega arith) in
          let w = form.ascend j q r (omega arith) (omega arith) (omega arith) y in omega arith

    -- the pointer stands behind all rows up to k
    pub lower_end : q ≤ get_or ap' (j + 1) 0 → (k < n → is_entry n ap' ai j k ≡ true) →
        ((r : ℕ) → get_or t j 0 ≤ r → r < q → get_or ai r 0 ≤ k) →
        ((r : ℕ) → q ≤ r → r < get_or ap' (j + 1) 0 → k < get_or ai r 0) → IsScan n ap' ai (set t j q) k (j + 1)
    lower_end to mirror behind rest = scan_swept t k j q before (omega arith) from to mirror behind rest scan

    -- the rows behind the place are no lesser than the one there
    pub lower_behind : (x : ℕ) → (q < get_or ap' (j + 1) 0 → x ≤ get_or ai q 0) → (r : ℕ) → q ≤ r → r < get_or ap' (j + 1) 0 →
        x ≤ get_or ai r 0
    lower_behind x stop r y z =
        let low = scan.start j before (omega arith) in
        elim (cases_eq q r) [
          | inl same ↦ rw same at stop (omega arith)
          | inr other ↦ (let w = form.ascend j q r (omega arith) (omega arith) (omega arith) z in let v = stop (omega arith) in omega arith)
        ]

  -- a column that was read to its end
  pub scan_ended : (t : List ℕ) (j : ℕ) → j < n → IsScan n ap' ai t n j → IsScan n ap' ai (set t j (get_or ap' (j + 1) 0)) n (j + 1)
  scan_ended t j j_in scan =
      let to = scan.stop j j_in j_in in
      scan_swept t n j (get_or ap' (j + 1) 0) j_in j_in to (omega arith) (λ x. absurd (omega (arith, x)))
      (λ r from below. let low = scan.start j j_in j_in in let row = form.rows j r j_in (omega (arith, low, from)) below in
      omega (arith, row))
      (λ r past below. absurd (omega (arith, past, below))) scan
