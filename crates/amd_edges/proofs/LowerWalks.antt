-- The walk where no entry is above the diagonal: no column reads of another one, so that each one is left from behind its
-- diagonal entry on, and no edge was met before.
use Rattle.std.proofs.Common.{◌≡◌, ◌≢◌, ◌+◌, ◌<◌, ◌≤◌, inl, inr, ℕ, zero, suc, Bool, true, false, List, [], get_or, map}
use Rattle.std.proofs.Common.{ap, arith, refl, sym, ◌∙◌, ◌⊎◌, subst, eqb, length, ltb, le_of_eq, le_of_lt, ◌&&◌}
use Rattle.std.specs.List.{range_with_len}
use Rattle.std.proofs.Math.ListN.{get_or-map}
use Rattle.std.proofs.lemmas.Bool.{and_parts, and_from, cases_Bool, cases_eq, cases_lt, cond-false, cond-true, eq-eqb, eqb-true}
use Rattle.std.proofs.lemmas.Bool.{false_from_ne_true, le-ltb, lt-ltb, ltb-true}
use Rattle.amd_model.proofs.Counting.Below.{clash}
use Rattle.std.proofs.lemmas.Grind.{get_or_default_zero}
use Rattle.std.proofs.lemmas.List.{get_or_past}
use Rattle.std.proofs.lemmas.List.FromFn.{get_or-range_with_len, length-map-range_with_len}
use Rattle.amd_types.specs.Naturals.{is_entry}
use Rattle.amd_edges.specs.Visits.{arcs_of}
use Rattle.amd_edges.specs.Walk.{IsScan, edges_before, is_met, is_read, lower_start, met}
use Rattle.amd_edges.proofs.Forms.{IsSortedForm}
use Rattle.amd_edges.proofs.Orders.{after_start, edges_after, start_edges, until_end, until_start}
use Rattle.amd_edges.proofs.Places.{before_none, entry_from, funext2}

-- behind a diagonal entry
pub start_behind : (ap' ai : List ℕ) (j first : ℕ) → first ≡ get_or ap' j 0 → first < get_or ap' (j + 1) 0 → get_or ai first 0 ≡ j →
    first + 1 ≡ lower_start ap' ai j
unfolding lower_start
start_behind ap' ai j first is some here = rw (
  sym is,
  lt-ltb first (get_or ap' (j + 1) 0) some,
  eq-eqb (get_or ai first 0) j here,
) refl

-- at the start of a column with no diagonal entry
pub start_at : (ap' ai : List ℕ) (j first : ℕ) → first ≡ get_or ap' j 0 → (first < get_or ap' (j + 1) 0 → get_or ai first 0 ≢ j) →
    first ≡ lower_start ap' ai j
unfolding lower_start
start_at ap' ai j first is none =
    let not : (ltb first (get_or ap' (j + 1) 0) && eqb (get_or ai first 0) j) ≡ false = false_from_ne_true _ (λ e.
    let p = and_parts _ _ e in none (ltb-true _ _ p.0) (eqb-true _ _ p.1)) in
    rw (sym is, not) refl

-- behind the diagonal entry, or at the start where none is
pub start_kind : (ap' ai : List ℕ) (a : ℕ) → ((lower_start ap' ai a ≡ get_or ap' a 0 + 1) × (get_or ap' a 0 < get_or ap' (a + 1) 0) ×
    (get_or ai (get_or ap' a 0) 0 ≡ a)) ⊎
    ((lower_start ap' ai a ≡ get_or ap' a 0) × (get_or ap' a 0 < get_or ap' (a + 1) 0 → get_or ai (get_or ap' a 0) 0 ≢ a))
unfolding lower_start
start_kind ap' ai a = elim (cases_Bool (ltb (get_or ap' a 0) (get_or ap' (a + 1) 0) && eqb (get_or ai (get_or ap' a 0) 0) a)) [
  | inl e ↦ (let p = and_parts _ _ e in
      inl (cond-true _ (get_or ap' a 0 + 1) (get_or ap' a 0) e, ltb-true _ _ p.0, eqb-true _ _ p.1))
  | inr e ↦ inr (
    cond-false _ (get_or ap' a 0 + 1) (get_or ap' a 0) e,
    λ some is. clash (and_from _ _ (lt-ltb _ _ some) (eq-eqb _ _ is)) e,
  )
]

-- no column has an upper entry: so none gives an edge where it is read
no_edges : (pair : ℕ → ℕ → Bool) → ((j k : ℕ) → j < k → pair j k ≡ false) → (k : ℕ) → edges_before pair k ≡ edges_before pair 0
no_edges pair none zero = refl
no_edges pair none (suc k) = let next : k + 1 ≡ suc k = omega arith in
    subst (λ m. edges_before pair m ≡ edges_before pair 0) next
    (until_end pair k 0 (omega arith) (λ a x y. none a k y) ∙ until_start pair k ∙ no_edges pair none k)

module _ (n : ℕ) (ap' ai : List ℕ) (form : IsSortedForm n ap' ai)
    (lower : (i j : ℕ) → is_entry n ap' ai i j ≡ true → j ≤ i) where
  no_upper : (j k : ℕ) → j < k → is_entry n ap' ai j k ≡ false
  no_upper j k up = false_from_ne_true _ (λ e. let w = lower j k e in absurd (omega (arith, up, w)))

  -- the first places of all columns
  abbrev pub starts : List ℕ
  starts = map (lower_start ap' ai) (range_with_len 0 n)

  starts_long : length starts ≡ n
  starts_long = length-map-range_with_len (lower_start ap' ai) 0 n

  pub starts_are : (a : ℕ) → a < n → get_or starts a 0 ≡ lower_start ap' ai a
  starts_are a a_in = let long = starts_long in
      let at : get_or (range_with_len 0 n) a 0 ≡ a = (let is = get_or-range_with_len 0 n a 0 a_in in omega (arith, is)) in
      sym (get_or_default_zero starts a (lower_start ap' ai 0) (omega (arith, long, a_in))) ∙
      get_or-map (lower_start ap' ai) (range_with_len 0 n) a 0 ∙ ap (lower_start ap' ai) at

  module _ (a : ℕ) (a_in : a < n) where
    start_low : get_or ap' a 0 ≤ lower_start ap' ai a
    start_low = elim (start_kind ap' ai a) [
      | inl k ↦ (let is = k.0 in omega (arith, is))
      | inr k ↦ (let is = k.0 in omega (arith, is))
    ]

    start_high : lower_start ap' ai a ≤ get_or ap' (a + 1) 0
    start_high = elim (start_kind ap' ai a) [
      | inl k ↦ (let is = k.0 in let some = k.1 in omega (arith, is, some))
      | inr k ↦ (let is = k.0 in let up = form.rising a a_in in omega (arith, is, up))
    ]

    -- a row of the column is no lesser than its first one
    first_least : (r : ℕ) → get_or ap' a 0 ≤ r → r < get_or ap' (a + 1) 0 → get_or ai (get_or ap' a 0) 0 ≤ get_or ai r 0
    first_least r from below = elim (cases_eq (get_or ap' a 0) r) [
      | inl same ↦ le_of_eq (ap (λ x. get_or ai x 0) same)
      | inr other ↦ le_of_lt (form.ascend a (get_or ap' a 0) r a_in (omega arith) (omega (arith, from, other)) below)
    ]

    start_below : (r : ℕ) → lower_start ap' ai a ≤ r → r < get_or ap' (a + 1) 0 → a < get_or ai r 0
    start_below r from below = elim (start_kind ap' ai a) [
      | inl k ↦ (let at = k.0 in let is = k.2 in
          let w = form.ascend a (get_or ap' a 0) r a_in (omega arith) (omega (arith, at, from)) below in omega (arith, w, is))
      | inr k ↦ (let at = k.0 in let some : get_or ap' a 0 < get_or ap' (a + 1) 0 = omega (arith, at, from, below) in
          let least = lower (get_or ai (get_or ap' a 0) 0) a (entry_from ap' ai n _ a (get_or ap' a 0) a_in (omega arith) some refl) in
          let other = k.1 some in let up = first_least r (omega (arith, at, from)) below in omega (arith, least, other, up))
    ]

    start_passed : (r : ℕ) → get_or ap' a 0 ≤ r → r < lower_start ap' ai a → get_or ai r 0 ≤ a
    start_passed r from below = elim (start_kind ap' ai a) [
      | inl k ↦ (let at = k.0 in let is = k.2 in let same : r ≡ get_or ap' a 0 = omega (arith, from, below, at) in
          le_of_eq (ap (λ x. get_or ai x 0) same ∙ is))
      | inr k ↦ (let at = k.0 in absurd (omega (arith, from, below, at)))
    ]

  pub lower_scan : IsScan n ap' ai starts n 0
  lower_scan = record {
    size = starts_long;
    start = λ a x y. rw (starts_are a y) (start_low a y);
    stop = λ a x y. rw (starts_are a y) (start_high a y);
    low = λ a r x y from below. start_below a y r (rw (starts_are a y) at from) below;
    unset = λ a past. get_or_past starts a 0 (let long = starts_long in omega (arith, long, past));
    passed = λ a c r up a_in reached mirror from below least. elim reached [
      | inl c_in ↦ (let w = lower a c (mirror c_in) in absurd (omega (arith, up, w)))
      | inr end ↦ absurd (let w = end.1 in omega (arith, w))
    ];
    reached = λ a r a_in from below. inl (start_passed a a_in r from (rw (starts_are a a_in) at below));
  }

  pub lower_met : met n ap' ai starts n 0 ≡ (λ a b. false)
  unfolding met is_met is_read
  lower_met = funext2 _ _ (λ a b. rw (half a b, half b a) refl)
    where
      and_false : (x : Bool) → (x && false) ≡ false
      and_false true = refl
      and_false false = refl

      not_passed : (a b : ℕ) → a < b → (q : ℕ) → get_or ap' a 0 ≤ q → q < get_or starts a 0 → get_or ai q 0 ≡ b → ⊥
      not_passed a b up q from below is = elim (cases_lt a n) [
        | inl a_in ↦ (let first = starts_are a a_in in
            let low = start_passed a a_in q from (omega (arith, below, first)) in omega (arith, low, is, up))
        | inr past ↦ (let long = starts_long in let none = get_or_past starts a 0 (omega (arith, long, past)) in
            omega (arith, below, none))
      ]

      half : (a b : ℕ) → is_met n ap' ai starts n 0 a b ≡ false
      half a b = elim (cases_lt a b) [
        | inl up ↦ rw (no_upper a b up, before_none ap' ai (get_or starts a 0) b a (not_passed a b up)) (and_false (ltb a b))
        | inr down ↦ rw (le-ltb a b down) refl
      ]

  pub lower_edges : arcs_of (edges_after (is_entry n ap' ai) n 0) ≡ []
  lower_edges = ap arcs_of (after_start (is_entry n ap' ai) n ∙ no_edges (is_entry n ap' ai) no_upper n) ∙
      start_edges (is_entry n ap' ai)
