-- The most that a number of a row and a column is, over the entries that a pass met.
use Rattle.std.proofs.Common.{◌≡◌, ◌+◌, ◌<◌, ◌≤◌, inl, inr, ℕ, List, map, pos, refl, sym, ap, subst, ◌∙◌, arith}
use Rattle.std.specs.Prelude.{slice_index, max}
use Rattle.std.proofs.lemmas.Bool.{cases_eq, cases_lt}
use Rattle.amd_model.specs.Input.Columns.{IsColumnForm}
use Rattle.amd_report.specs.Passes.{IsMostMet, Met}
use Rattle.amd_report.specs.Shapes.{IsMost}
use Rattle.amd_report.specs.Signs.{IsRisingForm}
use Rattle.amd_report.proofs.Passing.{met-begin, met-end, met-none, met-ended, pair-met, met-pair}

module _ (ap' ai : List ℕ) (f : ℕ → ℕ → ℕ) where
  pub most-none : IsMostMet ap' ai 0 0 f 0
  most-none = record { bound = met-none ap' ai (λ i c. f i c ≤ 0); reached = inl refl }

  -- a column with no entry
  pub most-kept : (j most : ℕ) → slice_index ap' j ≡ slice_index ap' (j + 1) → IsMostMet ap' ai j 0 f most →
      IsMostMet ap' ai (j + 1) 0 f most
  most-kept j most none h = record {
    bound = met-end ap' ai (λ i c. f i c ≤ most) j (slice_index ap' j) (omega (arith, none))
        (met-begin ap' ai (λ i c. f i c ≤ most) j h.bound);
    reached = elim h.reached [ inl z ↦ inl z | inr r ↦ inr (r.0, r.1, met-ended ap' ai j 0 r.0 r.1 r.2, r.3) ];
  }

  -- a column whose entries lie between the first one and the last one, which tell the most
  module _ (n : ℕ) (form : IsRisingForm n ap' ai) (j : ℕ) (inside : j < n) (last : ℕ) (begins : slice_index ap' j ≤ last)
      (ends : last + 1 ≡ slice_index ap' (j + 1)) where
    at-place : (q : ℕ) → slice_index ap' j ≤ q → q < slice_index ap' (j + 1) → Met ap' ai (j + 1) 0 (slice_index ai q) j
    at-place q low high = record { at = q; from = low; to = high; row = refl; before = inl (omega arith) }

    between : (q : ℕ) → slice_index ap' j ≤ q → q < slice_index ap' (j + 1) →
        (slice_index ai (slice_index ap' j) ≤ slice_index ai q) × (slice_index ai q ≤ slice_index ai last)
    between q low high = (
      elim (cases_eq q (slice_index ap' j)) [
        | inl e ↦ (let w = ap (slice_index ai) e in omega (arith, w))
        | inr ne ↦ (let w = form.rise j (slice_index ap' j) q inside (omega arith) (omega (arith, low, ne)) high in omega (arith, w))
      ],
      elim (cases_eq q last) [
        | inl e ↦ (let w = ap (slice_index ai) e in omega (arith, w))
        | inr ne ↦ (let w = form.rise j q last inside low (omega (arith, high, ends, ne)) (omega (arith, ends)) in omega (arith, w))
      ],
    )

    pub most-column : (most new : ℕ) → new ≡ max (max most (f (slice_index ai (slice_index ap' j)) j)) (f (slice_index ai last) j) →
        ((i : ℕ) → slice_index ai (slice_index ap' j) ≤ i → i ≤ slice_index ai last →
        f i j ≤ max (f (slice_index ai (slice_index ap' j)) j) (f (slice_index ai last) j)) → IsMostMet ap' ai j 0 f most →
        IsMostMet ap' ai (j + 1) 0 f new
    most-column most new is tells h = record {
      bound = λ i c m. elim (cases_eq c j) [
        | inl e ↦ (let from = subst (λ z. slice_index ap' z ≤ m.at) e m.from in
            let to = subst (λ z. m.at < slice_index ap' (z + 1)) e m.to in
            let b = between m.at from to in
            let row = m.row in
            let low = b.0 in let high = b.1 in
            let t = tells i (omega (arith, low, row)) (omega (arith, high, row)) in
            rw e (omega (arith, t, is)))
        | inr ne ↦ (let b = h.bound i c (record {
          at = m.at;
          from = m.from;
          to = m.to;
          row = m.row;
          before = inl (elim m.before [
            | inl l ↦ omega (arith, l, ne)
            | inr r ↦ absurd (let x = r.1 in omega (arith, x))
          ]);
        }) in omega (arith, b, is))
      ];
      reached = elim (cases_lt most new) [
        | inl more ↦ elim (cases_eq new (f (slice_index ai last) j)) [
          | inl e ↦ inr (slice_index ai last, j, at-place last begins (omega (arith, ends)), sym e)
          | inr ne ↦ inr (
            slice_index ai (slice_index ap' j),
            j,
            at-place (slice_index ap' j) (omega arith) (omega (arith, begins, ends)),
            omega (arith, is, more, ne),
          )
        ]
        | inr same ↦ (let e : most ≡ new = omega (arith, is, same) in elim h.reached [
          | inl z ↦ inl (sym e ∙ z)
          | inr r ↦ inr (r.0, r.1, met-ended ap' ai j 0 r.0 r.1 r.2, r.3 ∙ e)
        ])
      ];
    }

-- the entries that were met in the end are the pairs
pub most-pairs : (n : ℕ) (ap' ai : List ℕ) (form : IsColumnForm (pos n) n (map pos ap') (map pos ai)) (f : ℕ → ℕ → ℕ) (most : ℕ) →
    IsMostMet ap' ai n 0 f most → IsMost n (map pos ap') (map pos ai) f most
most-pairs n ap' ai form f most h = record {
  bound = λ i j e. h.bound i j (pair-met n ap' ai form i j e);
  reached = elim h.reached [ inl z ↦ inl z | inr r ↦ inr (r.0, r.1, met-pair n ap' ai form r.0 r.1 r.2, r.3) ];
}
