-- The signs of rows with one entry more, and the edges that were met with it.
use Rattle.std.proofs.Common.{◌≡◌, ◌≢◌, ◌+◌, ◌<◌, ◌≤◌, ◌⊎◌, inl, inr, ℕ, true, false, List, length, set, refl, sym, ap, subst, ◌∙◌}
use Rattle.std.proofs.Common.{arith, eqb, ltb, not, ◌&&◌, ◌||◌, bit_and, bit_or}
use Rattle.std.specs.Prelude.{slice_index}
use Rattle.std.specs.Int.{bit_at}
use Rattle.std.specs.Cmp.{both_ways}
use Rattle.std.proofs.Math.Bool.{or-false}
use Rattle.std.proofs.lemmas.Bool.{and_parts, and_from, or_cases, or_left, or_right, cases_eq, cases_lt, ne_eqb, eq-eqb, eqb-true}
use Rattle.std.proofs.lemmas.Bool.{ltb-true, lt-ltb, false_from_ne_true}
use Rattle.std.proofs.lemmas.List.{get_or-set_same, get_or-set_other}
use Rattle.std.proofs.lemmas.Nat.{and_or_self}
use Rattle.std.proofs.lemmas.Nat.Bits.{bit_at_and, bit_at_or, same_from_bits}
use Rattle.amd_types.specs.Naturals.{is_before, is_entry, is_edge, count_graph}
use Rattle.amd_model.proofs.Counting.Below.{clash}
use Rattle.amd_edges.specs.Visits.{IsNewEdge, with_arc, with_edge}
use Rattle.amd_edges.proofs.Places.{before_from, before_gives, before_none, before_more, entry_from, entry_gives, funext2}
use Rattle.amd_report.specs.Signs.{HaveSigns, IsRisingForm, edge_met, signs_after, signs_of, was_met}
use Rattle.amd_report.proofs.Passing.{met-begin, met-end, met-next, met-none}

-- a word that has some signs has them when it is given others
pub signs-stay : (word given signs : ℕ) → bit_and word signs ≡ signs → bit_and (bit_or word given) signs ≡ signs
signs-stay word given signs h = same_from_bits _ _ (λ i.
    let both = bit_at_and (bit_or word given) signs i in
    let one = bit_at_or word given i in
    let old = bit_at_and word signs i in
    let same : bit_at (bit_and word signs) i ≡ bit_at signs i = ap (λ z. bit_at z i) h in
    omega (arith, both, one, old, same))

module _ (ap' ai : List ℕ) where
  pub signs-none : (signs : List ℕ) → HaveSigns ap' ai 0 0 signs
  signs-none signs = met-none ap' ai (λ i c. c < i → bit_and (slice_index signs i) (signs_of c) ≡ signs_of c)

  pub signs-begin : (j : ℕ) (signs : List ℕ) → HaveSigns ap' ai j 0 signs → HaveSigns ap' ai j (slice_index ap' j) signs
  signs-begin j signs h = met-begin ap' ai (λ i c. c < i → bit_and (slice_index signs i) (signs_of c) ≡ signs_of c) j h

  pub signs-end : (j place : ℕ) (signs : List ℕ) → slice_index ap' (j + 1) ≤ place → HaveSigns ap' ai j place signs →
      HaveSigns ap' ai (j + 1) 0 signs
  signs-end j place signs past h =
      met-end ap' ai (λ i c. c < i → bit_and (slice_index signs i) (signs_of c) ≡ signs_of c) j place past h

  -- those of the columns before it
  pub signs-before : (j place : ℕ) (signs : List ℕ) → HaveSigns ap' ai j place signs → HaveSigns ap' ai j 0 signs
  signs-before j place signs h i c m = h i c (record {
    at = m.at;
    from = m.from;
    to = m.to;
    row = m.row;
    before = elim m.before [ inl x ↦ inl x | inr x ↦ absurd (let l = x.1 in omega (arith, l)) ];
  })

  -- an entry that is not below the diagonal gives none
  pub signs-same : (j place : ℕ) (signs : List ℕ) → slice_index ai place ≤ j → HaveSigns ap' ai j place signs →
      HaveSigns ap' ai j (place + 1) signs
  signs-same j place signs high h =
      met-next ap' ai (λ i c. c < i → bit_and (slice_index signs i) (signs_of c) ≡ signs_of c) j place h
      (λ l. absurd (omega (arith, l, high)))

  -- one entry more
  pub signs-next : (j place : ℕ) (signs : List ℕ) → slice_index ai place < length signs → HaveSigns ap' ai j place signs →
      HaveSigns ap' ai j (place + 1) (signs_after signs (slice_index ai place) j)
  signs-next j place signs inside h =
      let i : ℕ = slice_index ai place in
      let given : ℕ = bit_or (slice_index signs i) (signs_of j) in
      elim (cases_lt j i) [
        | inl l ↦ rw (lt-ltb j i l) (met-next ap' ai
            (λ a c. c < a → bit_and (slice_index (set signs i given) a) (signs_of c) ≡ signs_of c) j place
            (λ a c m x. elim (cases_eq a i) [
              | inl e ↦ rw (e, get_or-set_same signs i given 0 inside)
                  (signs-stay (slice_index signs i) (signs_of j) (signs_of c)
                  (subst (λ z. bit_and (slice_index signs z) (signs_of c) ≡ signs_of c) e (h a c m x)))
              | inr n ↦ rw (get_or-set_other signs i a given 0 n) (h a c m x)
            ])
            (λ x. rw (get_or-set_same signs i given 0 inside) (and_or_self (signs_of j) (slice_index signs i))))
        | inr l ↦ rw (false_from_ne_true (ltb j i) (λ e. let x = ltb-true j i e in omega (arith, x, l))) (signs-same j place signs l h)
      ]

module _ (n : ℕ) (ap' ai : List ℕ) where
  -- what was met stands in a column before, or in the column before the place
  met-gives : (j place a c : ℕ) → was_met n ap' ai j place a c ≡ true → ((c < j) × (is_entry n ap' ai a c ≡ true))
      ⊎ ((c ≡ j) × (is_before ap' ai place a j ≡ true))
  unfolding was_met
  met-gives j place a c h = elim (or_cases (ltb c j && is_entry n ap' ai a c) (eqb c j && is_before ap' ai place a j) h) [
    | inl x ↦ (let p = and_parts (ltb c j) (is_entry n ap' ai a c) x in inl (ltb-true c j p.0, p.1))
    | inr x ↦ (let p = and_parts (eqb c j) (is_before ap' ai place a j) x in inr (eqb-true c j p.0, p.1))
  ]

  met-from : (j place a c : ℕ) → ((c < j) × (is_entry n ap' ai a c ≡ true)) ⊎ ((c ≡ j) × (is_before ap' ai place a j ≡ true)) →
      was_met n ap' ai j place a c ≡ true
  unfolding was_met
  met-from j place a c h = elim h [
    | inl x ↦ or_left (ltb c j && is_entry n ap' ai a c) _ (and_from (ltb c j) (is_entry n ap' ai a c) (lt-ltb c j x.0) x.1)
    | inr x ↦ or_right (ltb c j && is_entry n ap' ai a c) _ (and_from (eqb c j) (is_before ap' ai place a j) (eq-eqb c j x.0) x.1)
  ]

  edge-gives : (j place a b : ℕ) → edge_met n ap' ai j place a b ≡ true →
      (a ≢ b) × ((was_met n ap' ai j place a b ≡ true) ⊎ (was_met n ap' ai j place b a ≡ true))
  edge-gives j place a b h =
      let p = and_parts (not (eqb a b)) (was_met n ap' ai j place a b || was_met n ap' ai j place b a) h in
      (λ e. clash p.0 (ap not (eq-eqb a b e)), or_cases (was_met n ap' ai j place a b) (was_met n ap' ai j place b a) p.1)

  edge-from : (j place a b : ℕ) → a ≢ b → (was_met n ap' ai j place a b ≡ true) ⊎ (was_met n ap' ai j place b a ≡ true) →
      edge_met n ap' ai j place a b ≡ true
  edge-from j place a b ne h =
      and_from (not (eqb a b)) (was_met n ap' ai j place a b || was_met n ap' ai j place b a) (ap not (ne_eqb a b ne)) (elim h [
        | inl x ↦ or_left (was_met n ap' ai j place a b) (was_met n ap' ai j place b a) x
        | inr x ↦ or_right (was_met n ap' ai j place a b) (was_met n ap' ai j place b a) x
      ])

  -- two passes that met the same have the same edges
  edges-same : (j place k after : ℕ) → ((a c : ℕ) → was_met n ap' ai j place a c ≡ was_met n ap' ai k after a c) →
      edge_met n ap' ai j place ≡ edge_met n ap' ai k after
  edges-same j place k after same = funext2 _ _ (λ a b. rw (same a b, same b a) refl)

  -- what was met is an entry
  met-entry : (j place a c : ℕ) → j < n → place ≤ slice_index ap' (j + 1) → was_met n ap' ai j place a c ≡ true →
      is_entry n ap' ai a c ≡ true
  met-entry j place a c inside to m = elim (met-gives j place a c m) [
    | inl x ↦ x.1
    | inr x ↦ (let q = before_gives ap' ai place a j x.1 in let past = q.2 in
        rw x.0 (entry_from ap' ai n a j q.0 inside q.1 (omega (arith, past, to)) q.3))
  ]

  edge-is : (a b : ℕ) → a ≢ b → (is_entry n ap' ai a b ≡ true) ⊎ (is_entry n ap' ai b a ≡ true) → is_edge n ap' ai a b ≡ true
  unfolding is_edge
  edge-is a b ne h = and_from (not (eqb a b)) (is_entry n ap' ai a b || is_entry n ap' ai b a) (ap not (ne_eqb a b ne)) (elim h [
    | inl x ↦ or_left (is_entry n ap' ai a b) (is_entry n ap' ai b a) x
    | inr x ↦ or_right (is_entry n ap' ai a b) (is_entry n ap' ai b a) x
  ])

  met-edge : (j place a b : ℕ) → j < n → place ≤ slice_index ap' (j + 1) → edge_met n ap' ai j place a b ≡ true →
      is_edge n ap' ai a b ≡ true
  met-edge j place a b inside to m =
      let p = edge-gives j place a b m in
      edge-is a b p.0 (elim p.1 [
        | inl x ↦ inl (met-entry j place a b inside to x)
        | inr x ↦ inr (met-entry j place b a inside to x)
      ])

  -- nothing of a column was met before its first place, and all of it before its end
  met-start : (j a c : ℕ) → was_met n ap' ai j 0 a c ≡ was_met n ap' ai j (slice_index ap' j) a c
  unfolding was_met
  met-start j a c =
      rw (
        before_none ap' ai 0 a j (λ q x y z. omega (arith, y)),
        before_none ap' ai (slice_index ap' j) a j (λ q x y z. omega (arith, x, y)),
      ) refl

  pub edges-start : (j : ℕ) → edge_met n ap' ai j 0 ≡ edge_met n ap' ai j (slice_index ap' j)
  edges-start j = edges-same j 0 j (slice_index ap' j) (met-start j)

  met-stop : (j a c : ℕ) → j < n → was_met n ap' ai j (slice_index ap' (j + 1)) a c ≡ was_met n ap' ai (j + 1) 0 a c
  met-stop j a c inside = both_ways _ _
      (λ h. met-from (j + 1) 0 a c (inl (elim (met-gives j (slice_index ap' (j + 1)) a c h) [
        | inl x ↦ ((let l = x.0 in omega (arith, l)), x.1)
        | inr x ↦ (let e = x.0 in let q = before_gives ap' ai (slice_index ap' (j + 1)) a j x.1 in
            (omega (arith, e), rw e (entry_from ap' ai n a j q.0 inside q.1 q.2 q.3)))
      ])))
      (λ h. met-from j (slice_index ap' (j + 1)) a c (elim (met-gives (j + 1) 0 a c h) [
        | inl x ↦ (let l = x.0 in elim (cases_eq c j) [
          | inl e ↦ inr (
            e,
            (let q = entry_gives ap' ai n a c x.1 in before_from ap' ai (slice_index ap' (j + 1)) a j q.0
                (subst (λ z. slice_index ap' z ≤ q.0) e q.2) (subst (λ z. q.0 < slice_index ap' (z + 1)) e q.3) q.4),
          )
          | inr ne ↦ inl (omega (arith, l, ne), x.1)
        ])
        | inr x ↦ absurd (let q = before_gives ap' ai 0 a (j + 1) x.1 in let r = q.2 in omega (arith, r))
      ]))

  pub edges-stop : (j : ℕ) → j < n → edge_met n ap' ai j (slice_index ap' (j + 1)) ≡ edge_met n ap' ai (j + 1) 0
  edges-stop j inside = edges-same j (slice_index ap' (j + 1)) (j + 1) 0 (λ a c. met-stop j a c inside)

  -- before the first column nothing was met, and in the end each entry
  met-never : (a c : ℕ) → was_met n ap' ai 0 0 a c ≡ true → ⊥
  met-never a c h = elim (met-gives 0 0 a c h) [
    | inl x ↦ (let l = x.0 in omega (arith, l))
    | inr x ↦ (let q = before_gives ap' ai 0 a 0 x.1 in let r = q.2 in omega (arith, r))
  ]

  pub edges-none : edge_met n ap' ai 0 0 ≡ (λ a b. false)
  edges-none = funext2 _ _ (λ a b. false_from_ne_true _ (λ h. elim (edge-gives 0 0 a b h).1 [
    | inl x ↦ met-never a b x
    | inr x ↦ met-never b a x
  ]))

  met-all : (a c : ℕ) → was_met n ap' ai n 0 a c ≡ is_entry n ap' ai a c
  met-all a c = both_ways _ _
      (λ h. elim (met-gives n 0 a c h) [
        | inl x ↦ x.1
        | inr x ↦ absurd (let q = before_gives ap' ai 0 a n x.1 in let r = q.2 in omega (arith, r))
      ])
      (λ h. let q = entry_gives ap' ai n a c h in met-from n 0 a c (inl (q.1, h)))

  pub edges-all : edge_met n ap' ai n 0 ≡ is_edge n ap' ai
  unfolding is_edge
  edges-all = funext2 _ _ (λ a b. rw (met-all a b, met-all b a) refl)

  module _ (form : IsRisingForm n ap' ai) (j place : ℕ) (inside : j < n) (low : slice_index ap' j ≤ place)
      (high : place < slice_index ap' (j + 1)) where
    pub row-in : slice_index ai place < n
    row-in = form.form.rows j place inside low high

    -- the row was not met in the column before
    not-before : is_before ap' ai place (slice_index ai place) j ≡ false
    not-before = before_none ap' ai place (slice_index ai place) j
        (λ q x y z. let r = form.rise j q place inside x y high in omega (arith, r, z))

    -- what was met stays so, and the entry is met
    met-kept : (a c : ℕ) → was_met n ap' ai j place a c ≡ true → was_met n ap' ai j (place + 1) a c ≡ true
    met-kept a c m = met-from j (place + 1) a c (elim (met-gives j place a c m) [
      | inl x ↦ inl x
      | inr x ↦ inr (x.0, before_more ap' ai place (slice_index ai place) j a low refl ∙ or_left (is_before ap' ai place a j) _ x.1)
    ])

    met-here : was_met n ap' ai j (place + 1) (slice_index ai place) j ≡ true
    met-here = met-from j (place + 1) (slice_index ai place) j (inr (
      refl,
      before_from ap' ai (place + 1) (slice_index ai place) j place low
          (omega arith) refl,
    ))

    met-split : (a c : ℕ) → was_met n ap' ai j (place + 1) a c ≡ true → (was_met n ap' ai j place a c ≡ true)
        ⊎ ((a ≡ slice_index ai place) × (c ≡ j))
    met-split a c m = elim (met-gives j (place + 1) a c m) [
      | inl x ↦ inl (met-from j place a c (inl x))
      | inr x ↦ elim (or_cases (is_before ap' ai place a j) (eqb a (slice_index ai place))
          (sym (before_more ap' ai place (slice_index ai place) j a low refl) ∙ x.1)) [
            | inl y ↦ inl (met-from j place a c (inr (x.0, y)))
            | inr y ↦ inr (eqb-true a (slice_index ai place) y, x.0)
          ]
    ]

    kept : (a b : ℕ) → edge_met n ap' ai j place a b ≡ true → edge_met n ap' ai j (place + 1) a b ≡ true
    kept a b m = let p = edge-gives j place a b m in edge-from j (place + 1) a b p.0 (elim p.1 [
      | inl x ↦ inl (met-kept a b x)
      | inr x ↦ inr (met-kept b a x)
    ])

    -- what is met now was met before, or is the entry
    split : (a b : ℕ) → edge_met n ap' ai j (place + 1) a b ≡ true → (edge_met n ap' ai j place a b ≡ true)
        ⊎ ((a ≢ b) × (((a ≡ slice_index ai place) × (b ≡ j)) ⊎ ((b ≡ slice_index ai place) × (a ≡ j))))
    split a b m = let p = edge-gives j (place + 1) a b m in elim p.1 [
      | inl x ↦ elim (met-split a b x) [
        | inl y ↦ inl (edge-from j place a b p.0 (inl y))
        | inr y ↦ inr (p.0, inl y)
      ]
      | inr x ↦ elim (met-split b a x) [
        | inl y ↦ inl (edge-from j place a b p.0 (inr y))
        | inr y ↦ inr (p.0, inr y)
      ]
    ]

    -- an entry on the diagonal is no edge
    pub edges-loop : slice_index ai place ≡ j → edge_met n ap' ai j place ≡ edge_met n ap' ai j (place + 1)
    edges-loop e = funext2 _ _ (λ a b. both_ways _ _ (kept a b) (λ m. elim (split a b m) [
      | inl x ↦ x
      | inr x ↦ absurd (elim x.1 [ inl y ↦ x.0 (y.0 ∙ e ∙ sym y.1) | inr y ↦ x.0 (y.1 ∙ sym e ∙ sym y.0) ])
    ]))

    -- and one with a mirror that was met gives none that was not
    pub edges-mirror : slice_index ai place ≢ j → was_met n ap' ai j place j (slice_index ai place) ≡ true →
        edge_met n ap' ai j place ≡ edge_met n ap' ai j (place + 1)
    edges-mirror ne met = funext2 _ _ (λ a b. both_ways _ _ (kept a b) (λ m. elim (split a b m) [
      | inl x ↦ x
      | inr x ↦ elim x.1 [
        | inl y ↦ edge-from j place a b x.0 (inr (rw (y.0, y.1) met))
        | inr y ↦ edge-from j place a b x.0 (inl (rw (y.0, y.1) met))
      ]
    ]))

    -- whether the mirror of the entry was met
    pub mirror-met : slice_index ai place ≢ j → was_met n ap' ai j place j (slice_index ai place)
        ≡ (ltb (slice_index ai place) j && is_before ap' ai (slice_index ap' (slice_index ai place + 1)) j (slice_index ai place))
    unfolding was_met is_entry
    mirror-met ne = rw (ne_eqb _ _ ne, lt-ltb _ _ row-in) (or-false _)

    module _ (ne : slice_index ai place ≢ j) (lone : was_met n ap' ai j place j (slice_index ai place) ≡ false) where
      fresh-here : was_met n ap' ai j place (slice_index ai place) j ≡ true → ⊥
      fresh-here h = elim (met-gives j place (slice_index ai place) j h) [
        | inl x ↦ (let l = x.0 in omega (arith, l))
        | inr x ↦ (let f = not-before in clash x.1 f)
      ]

      fresh : edge_met n ap' ai j place (slice_index ai place) j ≡ false
      fresh = false_from_ne_true _ (λ h. elim (edge-gives j place (slice_index ai place) j h).1 [
        | inl x ↦ fresh-here x
        | inr x ↦ clash x lone
      ])

      fresh-back : edge_met n ap' ai j place j (slice_index ai place) ≡ false
      fresh-back = false_from_ne_true _ (λ h. elim (edge-gives j place j (slice_index ai place) h).1 [
        | inl x ↦ clash x lone
        | inr x ↦ fresh-here x
      ])

      entry : is_entry n ap' ai (slice_index ai place) j ≡ true
      entry = entry_from ap' ai n (slice_index ai place) j place inside low high refl

      edge-there : is_edge n ap' ai (slice_index ai place) j ≡ true
      edge-there = edge-is (slice_index ai place) j ne (inl entry)

      edge-back : is_edge n ap' ai j (slice_index ai place) ≡ true
      edge-back = edge-is j (slice_index ai place) (λ e. ne (sym e)) (inr entry)

      within : (a b : ℕ) → edge_met n ap' ai j place a b ≡ true → is_edge n ap' ai a b ≡ true
      within a b m = met-edge j place a b inside (omega (arith, high)) m

      arc-gives : (a b : ℕ) → with_arc (edge_met n ap' ai j place) (slice_index ai place) j a b ≡ true →
          (edge_met n ap' ai j place a b ≡ true) ⊎ ((a ≡ slice_index ai place) × (b ≡ j))
      unfolding with_arc
      arc-gives a b h = elim (or_cases (edge_met n ap' ai j place a b) (eqb a (slice_index ai place) && eqb b j) h) [
        | inl x ↦ inl x
        | inr x ↦ (let p = and_parts (eqb a (slice_index ai place)) (eqb b j) x in inr (eqb-true a _ p.0, eqb-true b j p.1))
      ]

      -- it gives an edge that was not met
      pub edge-new : IsNewEdge (count_graph n ap' ai) (edge_met n ap' ai j place) (slice_index ai place) j
      edge-new = record {
        there = record { i_row = row-in; j_row = inside; edge = edge-there; fresh = fresh; within = within };
        back = record {
          i_row = inside;
          j_row = row-in;
          edge = edge-back;
          fresh = false_from_ne_true _ (λ h. elim (arc-gives j (slice_index ai place) h) [
            | inl x ↦ (let f = fresh-back in clash x f)
            | inr x ↦ ne (sym x.0)
          ]);
          within = λ a b h. elim (arc-gives a b h) [
            | inl x ↦ within a b x
            | inr x ↦ rw (x.0, x.1) edge-there
          ];
        };
      }

      pub edges-next : with_edge (edge_met n ap' ai j place) (slice_index ai place) j ≡ edge_met n ap' ai j (place + 1)
      unfolding with_arc
      edges-next = funext2 _ _ (λ a b. both_ways _ _
          (λ h. elim (or_cases (with_arc (edge_met n ap' ai j place) (slice_index ai place) j a b)
          (eqb a j && eqb b (slice_index ai place)) h) [
            | inl x ↦ elim (arc-gives a b x) [
              | inl y ↦ kept a b y
              | inr y ↦ rw (y.0, y.1) (edge-from j (place + 1) (slice_index ai place) j ne (inl met-here))
            ]
            | inr x ↦ (let p = and_parts (eqb a j) (eqb b (slice_index ai place)) x in
                rw (eqb-true a j p.0, eqb-true b _ p.1) (edge-from j (place + 1) j (slice_index ai place) (λ e. ne (sym e)) (inr met-here)))
          ])
          (λ m. elim (split a b m) [
            | inl x ↦ or_left (with_arc (edge_met n ap' ai j place) (slice_index ai place) j a b) _
                (or_left (edge_met n ap' ai j place a b) _ x)
            | inr x ↦ elim x.1 [
              | inl y ↦ or_left (with_arc (edge_met n ap' ai j place) (slice_index ai place) j a b) _
                  (or_right (edge_met n ap' ai j place a b) _
                  (and_from (eqb a (slice_index ai place)) (eqb b j) (eq-eqb a _ y.0) (eq-eqb b j y.1)))
              | inr y ↦ or_right (with_arc (edge_met n ap' ai j place) (slice_index ai place) j a b) _
                  (and_from (eqb a j) (eqb b (slice_index ai place)) (eq-eqb a j y.1) (eq-eqb b _ y.0))
            ]
          ]))
