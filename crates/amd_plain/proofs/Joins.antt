-- The rows of classes while each is merged into its representative.
use Rattle.std.proofs.Common.{ℕ, true, false, ◌≡◌, ◌≢◌, ◌<◌, ◌≤◌, ◌+◌, ◌&&◌, not, cond, inl, inr, refl, sym, ◌∙◌, ap, arith, List, take}
use Rattle.std.proofs.Common.{length, get_or}
use Rattle.std.specs.Prelude.{◌==◌, filter, sum_by}
use Rattle.std.proofs.lemmas.Bool.{cases_Bool, false≢true, and_from, and_left, and_right, or_parts, eq-eqb, ne_eqb, cases_eq, cond-true}
use Rattle.std.proofs.lemmas.Bool.{cond-false, not_from_false, not_from_true}
use Rattle.std.proofs.lemmas.List.{take_all}
use Rattle.amd_model.specs.Quotient.{has, Once}
use Rattle.amd_model.proofs.Counting.Below.{clash}
use Rattle.amd_round_laws.proofs.Lists.Named.{has_more, has_at, has_all, not_met, sum_part, sum_upto, sum_next, sum_apart, more_gives}

-- the rows that the classes met so far, other than x, bring to x
abbrev pub brought : List ℕ → (ℕ → ℕ) → (ℕ → ℕ) → ℕ → ℕ → ℕ
brought rest into old k x = sum_by old (filter (λ j. into j == x && not (j == x)) (take k rest))

-- the sizes after the first k classes were merged: a representative has more rows, what was merged has none, the others stay
pub record Merged (rest : List ℕ) (into old : ℕ → ℕ) (k : ℕ) (size : ℕ → ℕ) : Type 0 where
  pub kept : (x : ℕ) → has rest x ≡ true → into x ≡ x → size x ≡ old x + brought rest into old k x
  pub gone : (x : ℕ) → has (take k rest) x ≡ true → into x ≢ x → size x ≡ 0
  pub left : (x : ℕ) → has (take k rest) x ≡ false → into x ≢ x → size x ≡ old x
  pub apart : (x : ℕ) → has rest x ≡ false → size x ≡ old x

module _ (rest : List ℕ) (into old : ℕ → ℕ) where
  pub merged_none : Merged rest into old 0 old
  unfolding has
  merged_none = record { kept = λ x h e. omega arith; gone = λ x h e. absurd (false≢true h); left = λ x h e. refl; apart = λ x h. refl }

  module _ (k : ℕ) (within : k < length rest) (size : ℕ → ℕ) (so : Merged rest into old k size) where
    i : ℕ
    i = get_or rest k 0

    more : (x : ℕ) → brought rest into old (k + 1) x ≡ brought rest into old k x + cond (into i == x && not (i == x)) (old i) 0
    unfolding i
    more x = sum_next old (λ j. into j == x && not (j == x)) rest k 0 within

    none_more : (x : ℕ) → (into i == x && not (i == x)) ≡ false → brought rest into old (k + 1) x ≡ brought rest into old k x
    none_more x e = let a = more x in let b = cond-false (into i == x && not (i == x)) (old i) 0 e in omega (arith, a, b)

    met_before : (x : ℕ) → has (take (k + 1) rest) x ≡ true → x ≢ i → has (take k rest) x ≡ true
    unfolding i
    met_before x h ne = elim (more_gives rest k 0 x within h) [ inl q ↦ q | inr q ↦ absurd (ne q) ]

    unmet_before : (x : ℕ) → has (take (k + 1) rest) x ≡ false → (has (take k rest) x ≡ false) × (x ≢ i)
    unfolding i
    unmet_before x h = let p = or_parts (has (take k rest) x) (i == x) (sym (has_more rest k 0 within x) ∙ h) in
        (p.0, λ e. clash (eq-eqb i x (sym e)) p.1)

    -- a class that represents itself stays
    pub merged_stays : into (get_or rest k 0) ≡ get_or rest k 0 → Merged rest into old (k + 1) size
    unfolding i
    merged_stays self = record {
      kept = λ x h e. (let a = so.kept x h e in let b = none_more x (elim (cases_eq i x) [
        | inl q ↦ and_right (into i == x) (not (i == x)) (not_from_true (i == x) (eq-eqb i x q))
        | inr ne ↦ and_left (into i == x) (not (i == x)) (ne_eqb (into i) x (λ q. ne (sym self ∙ q)))
      ]) in omega (arith, a, b));
      gone = λ x h e. so.gone x (met_before x h (λ q. e (ap into q ∙ self ∙ sym q))) e;
      left = λ x h e. so.left x (unmet_before x h).0 e;
      apart = so.apart;
    }

    module _ (once : Once rest) (other : into (get_or rest k 0) ≢ get_or rest k 0)
        (target : (has rest (into (get_or rest k 0)) ≡ true) × (into (into (get_or rest k 0)) ≡ into (get_or rest k 0))) where
      own_rows : size (get_or rest k 0) ≡ old (get_or rest k 0)
      own_rows = so.left (get_or rest k 0) (not_met rest k 0 within once) other

      passes : (into i == into i && not (i == into i)) ≡ true
      unfolding i
      passes = and_from (into i == into i) (not (i == into i)) (eq-eqb (into i) (into i) refl)
          (not_from_false (i == into i) (ne_eqb i (into i) (λ e. other (sym e))))

      after_target : brought rest into old (k + 1) (into i) ≡ brought rest into old k (into i) + old i
      after_target = let a = more (into i) in let b = cond-true (into i == into i && not (i == into i)) (old i) 0 passes in
          omega (arith, a, b)

      -- the rows of the representative and of the class are among those of the list
      pub merged_fits : size (into (get_or rest k 0)) + size (get_or rest k 0) ≤ sum_by old rest
      unfolding i
      merged_fits =
          let r : ℕ = into i in
          let a = so.kept r target.0 target.1 in
          let b = after_target in
          let c = sum_upto old (λ j. into j == r && not (j == r)) rest (k + 1) in
          let d = sum_apart old (λ j. into j == r) r rest once target.0 (eq-eqb (into r) r target.1) in
          let e = sum_part old (λ j. into j == r) rest in
          let f = own_rows in
          omega (arith, a, b, c, d, e, f)

      -- another one is merged
      pub merged_moves : (after : ℕ → ℕ) → after (get_or rest k 0) ≡ 0 →
          after (into (get_or rest k 0)) ≡ size (into (get_or rest k 0)) + size (get_or rest k 0) →
          ((x : ℕ) → x ≢ get_or rest k 0 → x ≢ into (get_or rest k 0) → after x ≡ size x) → Merged rest into old (k + 1) after
      unfolding i
      merged_moves after here there same =
          let r : ℕ = into i in
          let no_self : (x : ℕ) → into x ≢ x → x ≢ r = λ x e q. e (ap into q ∙ target.1 ∙ sym q) in record {
            kept = λ x h e. elim (cases_eq x r) [
              | inl q ↦ (let a = so.kept r target.0 target.1 in let b = after_target in let c = ap after q in let d = ap old q in
                  let f = ap (brought rest into old (k + 1)) q in let o = own_rows in
                  omega (arith, a, b, c, d, f, there, o))
              | inr ne ↦ (let a = so.kept x h e in let b = none_more x
                  (and_left (into i == x) (not (i == x)) (ne_eqb (into i) x (λ q. ne (sym q)))) in
                  let c = same x (λ q. other (ap into (sym q) ∙ e ∙ q)) ne in omega (arith, a, b, c))
            ];
            gone = λ x h e. elim (cases_eq x i) [
              | inl q ↦ ap after q ∙ here
              | inr ne ↦ same x ne (no_self x e) ∙ so.gone x (met_before x h ne) e
            ];
            left = λ x h e. (let u = unmet_before x h in same x u.1 (no_self x e) ∙ so.left x u.0 e);
            apart = λ x h. same x (λ q. clash (ap (has rest) q ∙ has_at rest k 0 within) h) (λ q. clash (ap (has rest) q ∙ target.0) h) ∙
                so.apart x h;
          }

  -- all are merged
  pub merged_all : (k : ℕ) → length rest ≤ k → Once rest → (size : ℕ → ℕ) → Merged rest into old k size → (x : ℕ) →
      size x ≡ cond (has rest x) (cond (into x == x) (sum_by old (filter (λ j. into j == x) rest)) 0) (old x)
  merged_all k l once size so x = elim (cases_Bool (has rest x)) [
    | inr h ↦ so.apart x h ∙ sym (cond-false (has rest x) (cond (into x == x) (sum_by old (filter (λ j. into j == x) rest)) 0) (old x) h)
    | inl h ↦ elim (cases_eq (into x) x) [
      | inl e ↦ (let a = so.kept x h e in let b = ap (λ ys. sum_by old (filter (λ j. into j == x && not (j == x)) ys)) (take_all k rest l)
          in
          let c = sum_apart old (λ j. into j == x) x rest once h (eq-eqb (into x) x e) in
          let d : size x ≡ sum_by old (filter (λ j. into j == x) rest) = omega (arith, a, b, c) in
          d ∙ sym (cond-true (into x == x) (sum_by old (filter (λ j. into j == x) rest)) 0 (eq-eqb (into x) x e))) ∙
          sym (cond-true (has rest x) (cond (into x == x) (sum_by old (filter (λ j. into j == x) rest)) 0) (old x) h)
      | inr ne ↦ so.gone x (has_all rest k l x ∙ h) ne ∙ sym
          (cond-false (into x == x) (sum_by old (filter (λ j. into j == x) rest)) 0 (ne_eqb (into x) x ne))
          ∙ sym (cond-true (has rest x) (cond (into x == x) (sum_by old (filter (λ j. into j == x) rest)) 0) (old x) h)
    ]
  ]
