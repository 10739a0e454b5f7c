-- The first of the row itself and of those that it was met beside.
use Rattle.std.proofs.Common.{◌≡◌, ◌+◌, ◌-◌, ◌<◌, ◌≤◌, ◌⊎◌, inl, inr, ℕ, Bool, List, map, pos, length, set, refl, sym}
use Rattle.std.proofs.Common.{subst, ◌∙◌, arith, not, eqb, ltb, true, ◌&&◌, ◌||◌}
use Rattle.std.specs.Prelude.{slice_index, max, min}
use Rattle.std.proofs.lemmas.Bool.{and_parts, and_from, or_cases, or_left, or_right, cases_Bool, cases_eq, cases_lt, ne_eqb}
use Rattle.std.proofs.lemmas.Bool.{false_from_ne_true, lt-ltb, ltb-true}
use Rattle.std.proofs.lemmas.List.{get_or-set_same, get_or-set_other, length-set}
use Rattle.amd_model.specs.Below.{sum_below}
use Rattle.amd_model.specs.Input.Columns.{IsColumnForm, IsSorted}
use Rattle.amd_model.specs.Input.Pattern.{IsSymmetric, is_pair, graph_of}
use Rattle.amd_report.specs.Passes.{AreFirsts, Met, MetBeside, first_row}
use Rattle.amd_report.specs.Shapes.{IsProfile}
use Rattle.amd_report.proofs.Passing.{form-rising, met-begin, met-begun, met-end, met-ended, met-kept, met-new, met-next}
use Rattle.amd_report.proofs.Passing.{met-none, met-pair, pair-met}

-- one number of a list was lowered to another one, where it was greater
record Lowered (old new : List ℕ) (at to : ℕ) : Type 0 where
  long : length new ≡ length old
  less : (k : ℕ) → slice_index new k ≤ slice_index old k
  there : slice_index new at ≤ to
  only : (k : ℕ) → (slice_index new k ≡ slice_index old k) ⊎ ((k ≡ at) × (slice_index new k ≡ to) × (to < slice_index old k))

lowered : (old : List ℕ) (at to : ℕ) → at < length old → Lowered old (set old at (min (slice_index old at) to)) at to
lowered old at to l =
    let new : List ℕ = set old at (min (slice_index old at) to) in
    let same : slice_index new at ≡ min (slice_index old at) to = get_or-set_same old at _ 0 l in
    record {
      long = length-set _ _ _;
      less = λ k. elim (cases_eq k at) [
        | inl e ↦ rw e (omega (arith, same))
        | inr n ↦ (let q : slice_index new k ≡ slice_index old k = get_or-set_other old at k _ 0 n in omega (arith, q))
      ];
      there = omega (arith, same);
      only = λ k. elim (cases_eq k at) [
        | inl e ↦ elim (cases_lt to (slice_index old at)) [
          | inl m ↦ rw e (inr (refl, omega (arith, same, m), m))
          | inr m ↦ rw e (inl (omega (arith, same, m)))
        ]
        | inr n ↦ inl (get_or-set_other old at k _ 0 n)
      ];
    }

module _ (ap' ai : List ℕ) where
  both : List ℕ → ℕ → ℕ → Type 0
  both firsts i c = (slice_index firsts i ≤ c) × (slice_index firsts c ≤ i)

  met-both : (j place : ℕ) (firsts : List ℕ) → AreFirsts ap' ai j place firsts → (i c : ℕ) → Met ap' ai j place i c → both firsts i c
  unfolding both
  met-both j place firsts h i c m = (h.low i c (inl m), h.low c i (inr m))

  low-of : (j place : ℕ) (firsts : List ℕ) → ((i c : ℕ) → Met ap' ai j place i c → both firsts i c) →
      (i c : ℕ) → MetBeside ap' ai j place i c → slice_index firsts i ≤ c
  unfolding both
  low-of j place firsts h i c m = elim m [ inl a ↦ (h i c a).0 | inr b ↦ (h c i b).1 ]

  -- a row that was met beside another one stays so
  beside : (j place k after i c : ℕ) → ((a b : ℕ) → Met ap' ai j place a b → Met ap' ai k after a b) → MetBeside ap' ai j place i c →
      MetBeside ap' ai k after i c
  beside j place k after i c step m = elim m [ inl a ↦ inl (step i c a) | inr b ↦ inr (step c i b) ]

  found-of : (j place k after : ℕ) (firsts : List ℕ) → ((a b : ℕ) → Met ap' ai j place a b → Met ap' ai k after a b) →
      AreFirsts ap' ai j place firsts → (i : ℕ) → i < length firsts → (slice_index firsts i ≡ i)
      ⊎ ((slice_index firsts i < i) × MetBeside ap' ai k after i (slice_index firsts i))
  found-of j place k after firsts step h i l = elim (h.found i l) [
    | inl e ↦ inl e
    | inr f ↦ inr (f.0, beside j place k after i (slice_index firsts i) step f.1)
  ]

  pub firsts-none : (firsts : List ℕ) → ((i : ℕ) → i < length firsts → slice_index firsts i ≡ i) → AreFirsts ap' ai 0 0 firsts
  firsts-none firsts own = record {
    low = low-of 0 0 firsts (met-none ap' ai (both firsts));
    found = λ i l. inl (own i l);
  }

  pub firsts-begin : (j : ℕ) (firsts : List ℕ) → AreFirsts ap' ai j 0 firsts → AreFirsts ap' ai j (slice_index ap' j) firsts
  firsts-begin j firsts h = record {
    low = low-of j (slice_index ap' j) firsts (met-begin ap' ai (both firsts) j (met-both j 0 firsts h));
    found = found-of j 0 j (slice_index ap' j) firsts (met-begun ap' ai j) h;
  }

  pub firsts-end : (j place : ℕ) (firsts : List ℕ) → slice_index ap' (j + 1) ≤ place → AreFirsts ap' ai j place firsts →
      AreFirsts ap' ai (j + 1) 0 firsts
  firsts-end j place firsts past h = record {
    low = low-of (j + 1) 0 firsts (met-end ap' ai (both firsts) j place past (met-both j place firsts h));
    found = found-of j place (j + 1) 0 firsts (met-ended ap' ai j place) h;
  }

  -- one entry more
  pub firsts-next : (j place : ℕ) (old : List ℕ) → slice_index ap' j ≤ place → place < slice_index ap' (j + 1) →
      slice_index ai place < length old → j < length old → AreFirsts ap' ai j place old → (new : List ℕ) →
      new ≡ set old (max (slice_index ai place) j) (min (slice_index old (max (slice_index ai place) j)) (min (slice_index ai place) j)) →
      AreFirsts ap' ai j (place + 1) new
  unfolding both
  firsts-next j place old low high li lj h new w =
      let i : ℕ = slice_index ai place in
      let less : Lowered old new (max i j) (min i j) =
      subst (λ z. Lowered old z (max i j) (min i j)) (sym w) (lowered old (max i j) (min i j) (omega (arith, li, lj))) in
      let long = less.long in
      let met = met-new ap' ai j place low high in
      let most : (k : ℕ) → k < length old → slice_index old k ≤ k =
      λ k l. elim (h.found k l) [ inl e ↦ omega (arith, e) | inr f ↦ (let g = f.0 in omega (arith, g)) ] in
      record {
        low = low-of j (place + 1) new (met-next ap' ai (both new) j place
            (λ a c x. (let b = met-both j place old h a c x in
            let p = less.less a in let r = less.less c in let u = b.0 in let v = b.1 in
            (omega (arith, p, u), omega (arith, r, v))))
            (elim (cases_lt i j) [
              | inl l ↦ (let e : max i j ≡ j = omega (arith, l) in
                  let there = subst (λ z. slice_index new z ≤ min i j) e less.there in
                  let own = less.less i in let up = most i li in
                  (omega (arith, own, up, l), omega (arith, there)))
              | inr l ↦ (let e : max i j ≡ i = omega (arith, l) in
                  let there = subst (λ z. slice_index new z ≤ min i j) e less.there in
                  let own = less.less j in let up = most j lj in
                  (omega (arith, there), omega (arith, own, up, l)))
            ]));
        found = λ k l. elim (less.only k) [
          | inl same ↦ elim (h.found k (omega (arith, l, long))) [
            | inl e ↦ inl (same ∙ e)
            | inr f ↦ inr (
              (let g = f.0 in omega (arith, same, g)),
              subst (MetBeside ap' ai j (place + 1) k) (sym same)
                  (beside j place j (place + 1) k (slice_index old k) (met-kept ap' ai j place) f.1),
            )
          ]
          | inr f ↦ (let here = f.0 in let is = f.1 in let under = f.2 in let top = most k (omega (arith, l, long)) in
              inr (
                omega (arith, is, top, under),
                subst (MetBeside ap' ai j (place + 1) k) (sym is) (elim (cases_lt i j) [
                  | inl m ↦ (let a : k ≡ j = omega (arith, here, m) in let b : min i j ≡ i = omega (arith, m) in rw (a, b) (inr met))
                  | inr m ↦ (let a : k ≡ i = omega (arith, here, m) in let b : min i j ≡ j = omega (arith, m) in rw (a, b) (inl met))
                ]),
              ))
        ];
      }

-- the first ones make the profile
pub profile-is : (n : ℕ) (ap' ai : List ℕ) (form : IsColumnForm (pos n) n (map pos ap') (map pos ai)) (firsts : List ℕ) →
    length firsts ≡ n → AreFirsts ap' ai n 0 firsts → (profile : ℕ) → profile ≡ sum_below (length firsts) (λ i. i - slice_index firsts i) →
    IsProfile (graph_of n (map pos ap') (map pos ai)) profile
unfolding graph_of
profile-is n ap' ai form firsts long h profile sum =
    let pair : ℕ → ℕ → Bool = is_pair n (map pos ap') (map pos ai) in
    record {
      first = slice_index firsts;
      before = λ i j l lt. elim (cases_Bool (not (eqb i j) && (pair i j || pair j i))) [
        | inl e ↦ absurd (let low = h.low i j (elim (or_cases _ _ (and_parts (not (eqb i j)) _ e).1) [
          | inl q ↦ inl (pair-met n ap' ai form i j q)
          | inr q ↦ inr (pair-met n ap' ai form j i q)
        ]) in omega (arith, low, lt))
        | inr e ↦ e
      ];
      found = λ i l. elim (h.found i (omega (arith, l, long))) [
        | inl e ↦ inl e
        | inr f ↦ (let under = f.0 in let j : ℕ = slice_index firsts i in
            inr (
              under,
              and_from (not (eqb i j)) _ (rw (ne_eqb i j (λ e. omega (arith, e, under))) refl) (elim f.1 [
                | inl m ↦ or_left _ _ (met-pair n ap' ai form i j m)
                | inr m ↦ or_right _ _ (met-pair n ap' ai form j i m)
              ]),
            ))
      ];
      sum = rw long at sum;
    }

-- the first rows of the columns of a symmetric form make it too
pub symmetric-profile : (n : ℕ) (ap' ai : List ℕ) (form : IsColumnForm (pos n) n (map pos ap') (map pos ai)) →
    IsSorted n (map pos ap') (map pos ai) → IsSymmetric n (map pos ap') (map pos ai) → (profile : ℕ) →
    profile ≡ sum_below n (λ i. i - first_row ap' ai i) → IsProfile (graph_of n (map pos ap') (map pos ai)) profile
unfolding graph_of
symmetric-profile n ap' ai form sorted symmetric profile sum =
    let pair : ℕ → ℕ → Bool = is_pair n (map pos ap') (map pos ai) in
    let rising = form-rising n ap' ai form sorted in
    let low : (i j : ℕ) → i < n → Met ap' ai n 0 j i → first_row ap' ai i ≤ j =
    λ i j l m. (let from = m.from in let to = m.to in let row = m.row in
    let up : slice_index ai (slice_index ap' i) ≤ slice_index ai m.at = elim (cases_eq m.at (slice_index ap' i)) [
      | inl e ↦ rw e (omega arith)
      | inr ne ↦ (let r = rising.rise i (slice_index ap' i) m.at l (omega arith) (omega (arith, from, ne)) to in omega (arith, r))
    ] in
    rw (lt-ltb (slice_index ap' i) (slice_index ap' (i + 1)) (omega (arith, from, to))) (omega (arith, up, row))) in
    record {
      first = first_row ap' ai;
      before = λ i j l lt. elim (cases_Bool (not (eqb i j) && (pair i j || pair j i))) [
        | inl e ↦ absurd (let up = low i j l (elim (or_cases (pair i j) (pair j i) (and_parts (not (eqb i j)) _ e).1) [
          | inl q ↦ pair-met n ap' ai form j i (symmetric i j q)
          | inr q ↦ pair-met n ap' ai form j i q
        ]) in omega (arith, up, lt))
        | inr e ↦ e
      ];
      found = λ i l. elim (cases_lt (slice_index ap' i) (slice_index ap' (i + 1))) [
        | inl some ↦ elim (cases_lt (slice_index ai (slice_index ap' i)) i) [
          | inl up ↦ (let row : ℕ = slice_index ai (slice_index ap' i) in
              let is : first_row ap' ai i ≡ row = rw (lt-ltb _ _ some) (omega (arith, up)) in
              let met : Met ap' ai n 0 row i =
              record { at = slice_index ap' i; from = omega arith; to = some; row = refl; before = inl l } in
              inr (
                omega (arith, is, up),
                subst (λ z. (not (eqb i z) && (pair i z || pair z i)) ≡ true) (sym is)
                    (and_from (not (eqb i row)) _ (rw (ne_eqb i row (λ e. omega (arith, e, up))) refl)
                    (or_right (pair i row) _ (met-pair n ap' ai form row i met))),
              ))
          | inr up ↦ inl (rw (lt-ltb _ _ some) (omega (arith, up)))
        ]
        | inr none ↦ inl (rw (false_from_ne_true (ltb (slice_index ap' i) (slice_index ap' (i + 1)))
            (λ e. let x = ltb-true _ _ e in omega (arith, x, none))) refl)
      ];
      sum = sum;
    }
