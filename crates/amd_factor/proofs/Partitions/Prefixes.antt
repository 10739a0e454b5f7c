-- A column of which the entries before a place are written, and a rising list that lies in one no longer.
use Rattle.std.proofs.Common.{ℕ, ◌≡◌, ◌<◌, ◌≤◌, ◌+◌, ◌-◌, ◌⊎◌, true, inl, inr, sym, ◌∙◌, ap, subst, arith}
use Rattle.std.proofs.Common.{List, length, set}
use Rattle.std.specs.Prelude.{slice_index, slice_range, Contains}
use Rattle.std.specs.List.Sorted.{IsStrictlyIncreasing}
use Rattle.std.proofs.lemmas.Bool.{cases_eq, cases_lt}
use Rattle.std.proofs.lemmas.List.{ext_get_or, get_or-set_same, get_or-set_other}
use Rattle.std.proofs.lemmas.List.Edits.{get_or-between, length-between}
use Rattle.std.proofs.lemmas.List.Elements.{Contains-get_or}
use Rattle.amd_model.specs.Quotient.{has}
use Rattle.amd_model.proofs.Counting.Lists.{rising_pairs}
use Rattle.amd_factor.specs.Partitions.{Written}
use Rattle.amd_factor.proofs.Trees.FactorOnce.{rising_inside}
use Rattle.amd_factor.proofs.Factors.NewRows.{place_in}

-- a rising list that lies in another one, which is no longer, is that one
pub rising_full : (xs ys : List ℕ) → IsStrictlyIncreasing xs → IsStrictlyIncreasing ys →
    ((j : ℕ) → has xs j ≡ true → has ys j ≡ true) → length ys ≤ length xs → xs ≡ ys
rising_full xs ys up vp to l = (rising_inside xs ys up vp to).1 l

module _ (column : List ℕ) (j from to : ℕ) (rows : List ℕ) (w : Written column j from to rows) where
  -- a row that is not an entry is passed
  pub written_skip : (Contains column j → ⊥) → Written column (j + 1) from to rows
  written_skip none = record {
    low = w.low;
    most = w.most;
    stand = w.stand;
    before = λ i l. (let a = w.before i l in omega (arith, a));
    rest = λ i l m. (let a = w.rest i l m in elim (cases_eq (slice_index column i) j) [
      | inl e ↦ absurd (none (subst (Contains column) e (Contains-get_or column i 0 m)))
      | inr ne ↦ omega (arith, a, ne)
    ]);
  }

  -- a number elsewhere changes nothing
  pub written_other : (p x : ℕ) → (p < from) ⊎ (to ≤ p) → Written column j from to (set rows p x)
  written_other p x away = record {
    low = w.low;
    most = w.most;
    stand = λ i l. get_or-set_other rows p (from + i) x 0 (λ e. elim away [
      | inl a ↦ omega (arith, a, e)
      | inr a ↦ omega (arith, a, e, l)
    ]) ∙ w.stand i l;
    before = w.before;
    rest = w.rest;
  }

  module _ (up : IsStrictlyIncreasing column) (has-j : Contains column j) where
    abbrev found : (k : ℕ) × (k < length column) × (slice_index column k ≡ j)
    found = place_in column j has-j

    low-at : to ≤ from + found.0
    low-at = elim (cases_lt (from + found.0) to) [
      | inl l ↦ absurd (let a = w.before found.0 l in let e = found.2 in omega (arith, a, e))
      | inr l ↦ l
    ]

    pub room_at : to < from + length column
    room_at = let a = low-at in let b = found.1 in omega (arith, a, b)

    -- the next entry is the row
    next_is : (i : ℕ) → from + i ≡ to → slice_index column i ≡ j
    next_is i e =
        let a = low-at in let b = found.1 in let f = found.2 in
        let r = w.rest i (omega (arith, e)) (omega (arith, a, b, e)) in
        elim (cases_eq i found.0) [
          | inl q ↦ ap (slice_index column) q ∙ f
          | inr ne ↦ absurd (let p = rising_pairs column up i found.0 (omega (arith, a, e, ne)) b in omega (arith, p, r, f))
        ]

    pub written_next : to < length rows → Written column (j + 1) from (to + 1) (set rows to j)
    written_next fits = let f = w.low in let room = room_at in record {
      low = omega (arith, f);
      most = omega (arith, room);
      stand = λ i l. elim (cases_eq (from + i) to) [
        | inl e ↦ ap (slice_index (set rows to j)) e ∙ get_or-set_same rows to j 0 fits ∙ sym (next_is i e)
        | inr ne ↦ get_or-set_other rows to (from + i) j 0 ne ∙ w.stand i (omega (arith, l, ne))
      ];
      before = λ i l. elim (cases_eq (from + i) to) [
        | inl e ↦ (let n = next_is i e in omega (arith, n))
        | inr ne ↦ (let a = w.before i (omega (arith, l, ne)) in omega (arith, a))
      ];
      rest = λ i l m. (
          let last : from + (to - from) ≡ to = omega (arith, f) in
          let n = next_is (to - from) last in
          let p = rising_pairs column up (to - from) i (omega (arith, l, f)) m in omega (arith, n, p));
    }

  -- when all entries lie before j, the column is written
  pub written_all : ((i : ℕ) → i < length column → slice_index column i < j) → (end : ℕ) → end ≡ from + length column →
      end ≤ length rows → slice_range rows from end ≡ column
  written_all below end is within =
      let a = w.low in let b = w.most in
      let all : to ≡ end = elim (cases_lt to end) [
        | inl l ↦ absurd (let r = w.rest (to - from) (omega (arith, a)) (omega (arith, l, is, a)) in
            let m = below (to - from) (omega (arith, l, is, a)) in omega (arith, r, m))
        | inr l ↦ omega (arith, l, b, is)
      ] in
      let long = length-between rows from end within in
      ext_get_or 0 (slice_range rows from end) column (omega (arith, long, is)) (λ i l. get_or-between rows from end i 0 (omega
      (arith, l, long)) ∙ w.stand i (omega (arith, l, long, all)))
