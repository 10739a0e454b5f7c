-- Steps of the walk over the upper entries.
use Rattle.std.proofs.Common.{◌≡◌, ◌≢◌, ◌+◌, ◌<◌, ◌≤◌, ◌⊎◌, inl, inr, ℕ, Bool, true, false, List, [], ◌∷◌, ◌++◌, get_or, arith, refl, ap}
use Rattle.std.proofs.Common.{sym, ◌∙◌, cond, eqb, ltb, ◌||◌, ◌&&◌}
use Rattle.std.proofs.Math.Bool.{and_comm}
use Rattle.std.proofs.lemmas.Bool.{cases_eq, cases_lt, cases_Bool, true≢false, eq-eqb, lt-ltb, le-ltb, ne_eqb, false_from_ne_true}
use Rattle.std.proofs.lemmas.List.{length_push, get_or_push, get_or_append_left, get_or_past}
use Rattle.amd_edges.specs.Visits.{with_arc, IsNew}
use Rattle.amd_edges.proofs.Forms.{IsSortedForm}
use Rattle.amd_edges.proofs.Reading.{IsReading}
use Rattle.amd_types.specs.Naturals.{is_before, is_entry, count_graph}
use Rattle.amd_edges.specs.Walk.{IsScan, is_read, is_met, met}
use Rattle.amd_edges.proofs.Places.{cases_order, funext2, before_none, entry_from, entry_gives, entry_none}
use Rattle.amd_edges.proofs.Scans.{both_arcs, two_new, met_within, in_column, reached_on}

-- the row j stands above the diagonal of column k, and is the first one there from row m on
pub record IsUpper (n : ℕ) (ap' ai : List ℕ) (k m j : ℕ) : Type 0 where
  pub up : j < k
  pub pair : is_entry n ap' ai j k ≡ true
  pub low : m ≤ j
  pub gap : (a : ℕ) → m ≤ a → a < j → is_entry n ap' ai a k ≡ false

-- column k is over: its pointer is at `next`, and `diagonal` says whether it has a diagonal entry
pub record IsOver (n : ℕ) (ap' ai t : List ℕ) (k m next : ℕ) (diagonal : Bool) : Type 0 where
  pub scan : IsScan n ap' ai (t ++ next ∷ []) (k + 1) 0
  pub same : met n ap' ai t k m ≡ met n ap' ai (t ++ next ∷ []) (k + 1) 0
  pub entry : diagonal ≡ is_entry n ap' ai k k

module _ (n : ℕ) (ap' ai : List ℕ) (form : IsSortedForm n ap' ai) (t : List ℕ) (k m : ℕ) (k_in : k < n) (scan : IsScan n ap' ai t k m) where
  module _ (j : ℕ) (up : j < k) (pair : is_entry n ap' ai j k ≡ true) (low : m ≤ j)
      (gap : (a : ℕ) → m ≤ a → a < j → is_entry n ap' ai a k ≡ false) where
    upper_half : (a b : ℕ) → is_met n ap' ai t k (j + 1) a b ≡ is_met n ap' ai t k m a b || (eqb a j && eqb b k)
    unfolding is_met is_read
    upper_half a b = elim (cases_eq b k) [
      | inr ne ↦ rw (ne_eqb b k ne) (plain (ltb a b) (is_entry n ap' ai a b) (ltb b k) (is_before ap' ai (get_or t a 0) b a) (eqb a j))
      | inl same ↦ rw (same, le-ltb k k (omega arith), eq-eqb k k refl) (elim (cases_Bool (is_entry n ap' ai a k)) [
        | inr no' ↦ (let ne : a ≢ j = λ e. true≢false (sym pair ∙ ap (λ x. is_entry n ap' ai x k) (sym e) ∙ no') in
            rw (no', ne_eqb a j ne) (last (ltb a k && is_before ap' ai (get_or t a 0) k a)))
        | inl yes' ↦ rw yes' (elim (cases_eq a j) [
          | inl here ↦ rw (here, lt-ltb j k up, lt-ltb j (j + 1) (omega arith), eq-eqb j j refl) (ends (ltb j m))
          | inr there ↦ elim (cases_lt a j) [
            | inr over ↦ rw (ne_eqb a j there, le-ltb a (j + 1) (omega arith), le-ltb a m (omega arith)) (over_all (ltb a k))
            | inl under ↦ elim (cases_lt a m) [
              | inl seen ↦ rw (ne_eqb a j there, lt-ltb a (j + 1) (omega arith), lt-ltb a m seen) (over_true (ltb a k))
              | inr left ↦ absurd (true≢false (sym yes' ∙ gap a left under))
            ]
          ]
        ])
      ])
    ]
      where
        plain : (x p l s e : Bool) → (x && cond p (l || (false && false)) s) ≡ (x && cond p (l || false) s) || (e && false)
        plain true true true s true = refl
        plain true true true s false = refl
        plain true true false s true = refl
        plain true true false s false = refl
        plain true false l true e = refl
        plain true false l false true = refl
        plain true false l false false = refl
        plain false p l s true = refl
        plain false p l s false = refl

        last : (x : Bool) → x ≡ x || false
        last true = refl
        last false = refl

        ends : (x : Bool) → true ≡ x || true
        ends true = refl
        ends false = refl

        over_all : (x : Bool) → (x && false) ≡ (x && false) || false
        over_all true = refl
        over_all false = refl

        over_true : (x : Bool) → (x && true) ≡ (x && true) || false
        over_true true = refl
        over_true false = refl

    pub upper_after : with_arc (with_arc (met n ap' ai t k m) j k) k j ≡ met n ap' ai t k (j + 1)
    unfolding met
    upper_after = both_arcs (is_met n ap' ai t k m) (is_met n ap' ai t k (j + 1)) (λ a b. eqb a j && eqb b k) j k upper_half
        (λ a b. ap (λ y. (eqb a j && eqb b k) || y) (and_comm (eqb b j) (eqb a k)))

    fresh : (met n ap' ai t k m j k ≡ false) × (met n ap' ai t k m k j ≡ false)
    unfolding met is_met is_read
    fresh = rw (pair, le-ltb k j (omega arith), lt-ltb j k up, le-ltb k k (omega arith), eq-eqb k k refl, le-ltb j m low) (refl, refl)

    pub upper_new : IsNew (count_graph n ap' ai) (met n ap' ai t k m) j k
        × IsNew (count_graph n ap' ai) (with_arc (met n ap' ai t k m) j k) k j
    upper_new = two_new n ap' ai form _ j k (omega arith) k_in (λ e. omega arith) pair fresh.0 fresh.1
        (met_within n ap' ai form t k m (let z = scan.size in omega arith) (in_column n ap' ai form t k m scan))

    pub upper_scan : IsScan n ap' ai t k j
    upper_scan = record {
      size = scan.size;
      start = scan.start;
      stop = scan.stop;
      low = scan.low;
      unset = scan.unset;
      passed = λ a c r x y z w l h le. elim z [
        | inl v ↦ scan.passed a c r x y (inl v) w l h le
        | inr v ↦ elim (cases_lt a m) [
          | inl seen ↦ scan.passed a c r x y (inr (v.0, seen)) w l h le
          | inr left ↦ (let e : c ≡ k = v.0 in
              absurd (true≢false (sym (w (omega arith)) ∙ ap (λ b. is_entry n ap' ai a b) e ∙ gap a left v.1)))
        ]
      ];
      reached = λ a r x y h. reached_on n ap' ai form k m k j a (get_or ai r 0)
          (λ c z. elim z [ inl v ↦ inl v | inr v ↦ inr (v.0, (let w = v.1 in omega arith)) ]) (scan.reached a r x y h);
    }

  -- no row stands between those that were read and the next one
  upper_gap : (p : ℕ) → get_or ap' k 0 ≤ p → p < get_or ap' (k + 1) 0 → ((r : ℕ) → get_or ap' k 0 ≤ r → r < p → get_or ai r 0 < m) →
      (a : ℕ) → m ≤ a → a < get_or ai p 0 → is_entry n ap' ai a k ≡ false
  upper_gap p from to read a low high = entry_none ap' ai n a k (λ q h x y e. elim (cases_lt q p) [
    | inl v ↦ (let w = read q x v in omega arith)
    | inr v ↦ elim (cases_eq p q) [
      | inl same ↦ (let w = ap (λ z. get_or ai z 0) same in omega arith)
      | inr other ↦ (let w = form.ascend k p q h from (omega arith) y in omega arith)
    ]
  ])

  -- the row j at the place p is the next one above the diagonal
  pub upper_next : (end p j : ℕ) → end ≡ get_or ap' (k + 1) 0 → IsReading ai (get_or ap' k 0) end k m p → j ≡ get_or ai p 0 → p < end →
      j < k → IsUpper n ap' ai k m j
  upper_next end p j end_is so is inside below =
      let to : p < get_or ap' (k + 1) 0 = omega (arith, end_is, inside) in
      let here = so.left p (omega arith) inside in
      record {
        up = below;
        pair = entry_from ap' ai n j k p k_in so.from to (sym is);
        low = omega (arith, is, here);
        gap = λ a x y. upper_gap p so.from to so.read a x (omega (arith, is, y));
      }

  module _ (p : ℕ) (from : get_or ap' k 0 ≤ p) (to : p ≤ get_or ap' (k + 1) 0)
      (behind : (r : ℕ) → get_or ap' k 0 ≤ r → r < p → get_or ai r 0 ≤ k)
      (rest : (r : ℕ) → p ≤ r → r < get_or ap' (k + 1) 0 → k < get_or ai r 0)
      (uppers : (a : ℕ) → a < k → is_entry n ap' ai a k ≡ true → a < m) where
    here : get_or (t ++ p ∷ []) k 0 ≡ p
    here = get_or_push t p 0 k scan.size

    there : (a : ℕ) → a ≢ k → get_or (t ++ p ∷ []) a 0 ≡ get_or t a 0
    there a ne = elim (cases_lt a k) [
      | inl x ↦ get_or_append_left t (p ∷ []) 0 a (let z = scan.size in omega arith)
      | inr x ↦ (let z = scan.size in let l = length_push t p in get_or_past (t ++ p ∷ []) a 0 (omega arith) ∙
          sym (get_or_past t a 0 (omega arith)))
    ]

    -- the pointer of column k is added
    end_scan : IsScan n ap' ai (t ++ p ∷ []) (k + 1) 0
    end_scan = record {
      size = length_push t p ∙ ap (λ x. x + 1) scan.size;
      start = λ a x y. elim (cases_eq a k) [ inl e ↦ rw (e, here) from | inr e ↦ rw (there a e) (scan.start a (omega arith) y) ];
      stop = λ a x y. elim (cases_eq a k) [ inl e ↦ rw (e, here) to | inr e ↦ rw (there a e) (scan.stop a (omega arith) y) ];
      low = λ a r x y z w. elim (cases_eq a k) [
        | inl e ↦ (let u = rw (e, here) at z in let v = rw e at w in rw e (rest r u v))
        | inr e ↦ scan.low a r (omega arith) y (rw (there a e) at z) w
      ];
      unset = λ a x. rw (there a (λ e. omega arith)) (scan.unset a (omega arith));
      passed = λ a c r x y z w l h le. elim z [
        | inl v ↦ rw (there a (λ e. omega arith)) (scan.passed a c r x y (before a c x y v w) w l h le)
        | inr v ↦ (let u = v.1 in absurd (omega arith))
      ];
      reached = λ a r x y h. elim (cases_eq a k) [
        | inl e ↦ inl (let w = behind r (rw e at y) (rw (e, here) at h) in omega arith)
        | inr e ↦ reached_on n ap' ai form k m (k + 1) 0 a (get_or ai r 0)
            (λ c z. elim z [ inl v ↦ inl (omega arith) | inr v ↦ inl (let w = v.0 in omega arith) ])
            (scan.reached a r x y (rw (there a e) at h))
      ];
    }
      where
        before : (a c : ℕ) → a < c → a < n → c < k + 1 → (c < n → is_entry n ap' ai a c ≡ true) → (c < k) ⊎ ((c ≡ k) × (a < m))
        before a c x y v w = elim (cases_eq c k) [
          | inl e ↦ inr (e, uppers a (omega arith) (rw e at w (omega arith)))
          | inr e ↦ inl (omega arith)
        ]

    end_met : met n ap' ai (t ++ p ∷ []) (k + 1) 0 ≡ met n ap' ai t k m
    unfolding met is_met is_read
    end_met = funext2 _ _ (λ a b. rw (half a b, half b a) refl)
      where
        or_true : (x y : Bool) → (x && true) ≡ (x && (y || true))
        or_true true true = refl
        or_true true false = refl
        or_true false y = refl

        and_false : (x y : Bool) → (x && (y && false)) ≡ (x && false)
        and_false true true = refl
        and_false true false = refl
        and_false false y = refl

        half : (a b : ℕ) → is_met n ap' ai (t ++ p ∷ []) (k + 1) 0 a b ≡ is_met n ap' ai t k m a b
        half a b = elim (cases_lt a b) [
          | inr x ↦ rw (le-ltb a b x) refl
          | inl x ↦ elim (cases_Bool (is_entry n ap' ai a b)) [
            | inl yes' ↦ rw yes' (elim (cases_order b k) [
              | inl y ↦ rw (lt-ltb b (k + 1) (omega arith), lt-ltb b k y) refl
              | inr y ↦ elim y [
                | inl z ↦ rw (lt-ltb b (k + 1) (omega arith), eq-eqb b k z, lt-ltb a m (uppers a (omega arith) (rw z at yes')))
                    (or_true (ltb a b) (ltb b k))
                | inr z ↦ rw (
                  le-ltb b (k + 1) (omega arith),
                  le-ltb b k (omega arith),
                  ne_eqb b k (λ e. omega arith),
                  le-ltb a 0 (omega arith),
                ) (and_false (ltb a b) (eqb b (k + 1)))
              ]
            ])
            | inr no' ↦ rw no' (elim (cases_eq a k) [
              | inr e ↦ rw (there a e) refl
              | inl e ↦ rw (
                e,
                here,
                scan.unset k (omega arith),
                before_none ap' ai p b k (λ q low high same. let w = behind q low high in omega arith),
                before_none ap' ai 0 b k (λ q low high same. omega arith),
              ) refl
            ])
          ]
        ]

  -- where the upper entries end
  module _ (p : ℕ) (from : get_or ap' k 0 ≤ p) (stop : p < get_or ap' (k + 1) 0 → k ≤ get_or ai p 0) (small : m ≤ k)
      (read : (r : ℕ) → get_or ap' k 0 ≤ r → r < p → get_or ai r 0 < m) where
    rows_from : (q : ℕ) → p ≤ q → q < get_or ap' (k + 1) 0 → (get_or ai p 0 ≤ get_or ai q 0) × (k ≤ get_or ai q 0)
    rows_from q x y = elim (cases_eq p q) [
      | inl same ↦ (let v = stop (omega arith) in let w = ap (λ z. get_or ai z 0) same in (omega arith, omega arith))
      | inr other ↦ (let w = form.ascend k p q k_in from (omega arith) y in let v = stop (omega arith) in (omega arith, omega arith))
    ]

    exit_uppers : (a : ℕ) → a < k → is_entry n ap' ai a k ≡ true → a < m
    exit_uppers a h e = (let r = entry_gives ap' ai n a k e in let e = r.4 in elim (cases_lt r.0 p) [
      | inl x ↦ (let w = read r.0 r.2 x in omega arith)
      | inr x ↦ (let w = (rows_from r.0 x r.3).1 in absurd (omega arith))
    ])

    pub exit_gap : (a : ℕ) → m ≤ a → a < k → is_entry n ap' ai a k ≡ false
    exit_gap a x y = false_from_ne_true _ (λ e. let z = exit_uppers a y e in omega arith)

    exit_rest : (p < get_or ap' (k + 1) 0 → get_or ai p 0 ≢ k) → (r : ℕ) → p ≤ r → r < get_or ap' (k + 1) 0 → k < get_or ai r 0
    exit_rest ne r x y = (let w = rows_from r x y in let w0 = w.0 in let v = stop (omega arith) in let d = ne (omega arith) in omega arith)

    exit_rest_next : get_or ai p 0 ≡ k → (r : ℕ) → p + 1 ≤ r → r < get_or ap' (k + 1) 0 → k < get_or ai r 0
    exit_rest_next e r x y = (let w = form.ascend k p r k_in from (omega arith) y in omega arith)

    exit_behind : (r : ℕ) → get_or ap' k 0 ≤ r → r < p → get_or ai r 0 ≤ k
    exit_behind r x y = (let w = read r x y in omega arith)

    exit_behind_next : get_or ai p 0 ≡ k → (r : ℕ) → get_or ap' k 0 ≤ r → r < p + 1 → get_or ai r 0 ≤ k
    exit_behind_next e r x y =
        elim (cases_lt r p) [ inl z ↦ exit_behind r x z | inr z ↦ (let w : r ≡ p = omega arith in rw (w, e) (omega arith)) ]

    exit_none : (p < get_or ap' (k + 1) 0 → get_or ai p 0 ≢ k) → is_entry n ap' ai k k ≡ false
    exit_none ne = entry_none ap' ai n k k (λ q h x y e. elim (cases_lt q p) [
      | inl z ↦ (let w = read q x z in omega arith)
      | inr z ↦ (let w = exit_rest ne q z y in omega arith)
    ])

    module _ (to : p ≤ get_or ap' (k + 1) 0) (next : ℕ) (diagonal : Bool) where
      -- the diagonal entry at the place is passed over
      pub over_entry : diagonal ≡ true → next ≡ p + 1 → p < get_or ap' (k + 1) 0 → get_or ai p 0 ≡ k → IsOver n ap' ai t k m next diagonal
      over_entry yes' next_is inside is =
          let low : get_or ap' k 0 ≤ p + 1 = omega (arith, from) in
          let high : p + 1 ≤ get_or ap' (k + 1) 0 = omega (arith, inside) in
          rw (yes', next_is) (record {
            scan = end_scan (p + 1) low high (exit_behind_next is) (exit_rest_next is) exit_uppers;
            same = sym (end_met (p + 1) low high (exit_behind_next is) (exit_rest_next is) exit_uppers);
            entry = sym (entry_from ap' ai n k k p k_in from inside is);
          })

      pub over_none : diagonal ≡ false → next ≡ p → (p < get_or ap' (k + 1) 0 → get_or ai p 0 ≢ k) → IsOver n ap' ai t k m next diagonal
      over_none no' next_is ne = rw (no', next_is) (record {
        scan = end_scan p from to exit_behind (exit_rest ne) exit_uppers;
        same = sym (end_met p from to exit_behind (exit_rest ne) exit_uppers);
        entry = sym (exit_none ne);
      })
