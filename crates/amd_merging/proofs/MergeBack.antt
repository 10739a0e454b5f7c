-- Classes are merged into their representatives from the last of a list on: the rows of each, and what is written for each that ends.
use Rattle.amd_model.proofs.Counting.Below.{clash}
use Rattle.std.proofs.Common.{ℕ, Bool, true, false, List, [], ◌∷◌, ◌≡◌, ◌≤◌, ◌+◌, ◌&&◌, ◌||◌, not, cond, inl, inr, refl, sym, ap, ◌∙◌}
use Rattle.std.proofs.Common.{arith}
use Rattle.std.specs.Prelude.{◌==◌, filter, sum_by}
use Rattle.std.proofs.lemmas.Bool.{cases_Bool, cases_eq, eq-eqb, ne_eqb, cond-true, cond-false, and_from, and_left, and_right, or_parts}
use Rattle.std.proofs.lemmas.Bool.{not_from_true, not_from_false}
use Rattle.amd_model.specs.Quotient.{has, Once}
use Rattle.amd_model.proofs.Listings.Words.{has_none, has_head, has_cases}
use Rattle.amd_round_laws.proofs.Lists.Named.{sum_pass, sum_part, sum_apart}

-- what a longer list does not name
pub miss : (i : ℕ) (back : List ℕ) (x : ℕ) → has (i ∷ back) x ≡ false → (x ≡ i → ⊥) × (has back x ≡ false)
unfolding has
miss i back x h = let p = or_parts (i == x) (has back x) h in ((λ e. clash {P = ⊥} (eq-eqb i x (sym e)) p.0), p.1)

module _ (rest : List ℕ) (into old : ℕ → ℕ) where
  -- the class j brings its rows to x
  abbrev pub brings : ℕ → ℕ → Bool
  brings x j = into j == x && not (j == x)

  -- the sizes after the classes of a list were merged: a representative has more rows, what was merged has none, the others stay
  pub record MergedBack (back : List ℕ) (size : ℕ → ℕ) : Type 0 where
    pub kept : (x : ℕ) → has rest x ≡ true → into x ≡ x → size x ≡ old x + sum_by old (filter (brings x) back)
    pub gone : (x : ℕ) → has back x ≡ true → (into x ≡ x → ⊥) → size x ≡ 0
    pub left : (x : ℕ) → has back x ≡ false → (into x ≡ x → ⊥) → size x ≡ old x
    pub apart : (x : ℕ) → has rest x ≡ false → size x ≡ old x

  pub back_none : MergedBack [] old
  unfolding has
  back_none = record { kept = λ x h e. omega arith; gone = λ x h e. absurd (has_none x h); left = λ x h e. refl; apart = λ x h. refl }

  module _ (i : ℕ) (back : List ℕ) (fresh : has back i ≡ false) (size after : ℕ → ℕ) (so : MergedBack back size) where
    none_more : (x : ℕ) → brings x i ≡ false → sum_by old (filter (brings x) (i ∷ back)) ≡ sum_by old (filter (brings x) back)
    none_more x e = let a = sum_pass old (brings x) i back in let b = cond-false (brings x i) (old i) 0 e in omega (arith, a, b)

    -- a class that represents itself
    pub back_stays : into i ≡ i → ((x : ℕ) → after x ≡ size x) → MergedBack (i ∷ back) after
    back_stays self same = record {
      kept = λ x h e. (let s = same x in let a = so.kept x h e in let b = none_more x (elim (cases_eq i x) [
        | inl q ↦ and_right (into i == x) (not (i == x)) (not_from_true (i == x) (eq-eqb i x q))
        | inr ne ↦ and_left (into i == x) (not (i == x)) (ne_eqb (into i) x (λ q. ne (sym self ∙ q)))
      ]) in omega (arith, a, b, s));
      gone = λ x h e. same x ∙ elim (has_cases x i back h) [ inl q ↦ absurd (e (ap into q ∙ self ∙ sym q)) | inr q ↦ so.gone x q e ];
      left = λ x h e. same x ∙ so.left x (miss i back x h).1 e;
      apart = λ x h. same x ∙ so.apart x h;
    }

    -- a class that is merged into another one
    pub back_moves : (into i ≡ i → ⊥) → has rest i ≡ true → has rest (into i) ≡ true → into (into i) ≡ into i → after i ≡ 0 →
        after (into i) ≡ size (into i) + size i →
        ((x : ℕ) → (x ≡ i → ⊥) → (x ≡ into i → ⊥) → after x ≡ size x) → MergedBack (i ∷ back) after
    back_moves other in_rest target fixed here there same =
        let r : ℕ = into i in let own = so.left i fresh other in
        let no_self : (x : ℕ) → (into x ≡ x → ⊥) → x ≡ r → ⊥ = λ x e q. e (ap into q ∙ fixed ∙ sym q) in
        record {
          kept = λ x h e. elim (cases_eq x r) [
            | inl q ↦ (let a = so.kept r target fixed in let b = sum_pass old (brings r) i back in
                let t = cond-true (brings r i) (old i) 0 (and_from (into i == r) (not (i == r)) (eq-eqb (into i) r refl)
                (not_from_false (i == r) (ne_eqb i r (λ m. other (sym m))))) in
                let c = ap after q in let d = ap old q in let f = ap (λ z. sum_by old (filter (brings z) (i ∷ back))) q in
                omega (arith, a, b, c, d, f, t, there, own))
            | inr ne ↦ (let a = so.kept x h e in let b = none_more x
                (and_left (into i == x) (not (i == x)) (ne_eqb (into i) x (λ q. ne (sym q)))) in
                let c = same x (λ q. other (ap into (sym q) ∙ e ∙ q)) ne in omega (arith, a, b, c))
          ];
          gone = λ x h e. elim (cases_eq x i) [
            | inl q ↦ ap after q ∙ here
            | inr ne ↦ same x ne (no_self x e) ∙ so.gone x (elim (has_cases x i back h) [ inl q ↦ absurd (ne q) | inr q ↦ q ]) e
          ];
          left = λ x h e. (let u = miss i back x h in same x u.0 (no_self x e) ∙ so.left x u.1 e);
          apart = λ x h. same x (λ q. clash {P = ⊥} (ap (has rest) q ∙ in_rest) h) (λ q. clash {P = ⊥} (ap (has rest) q ∙ target) h)
              ∙ so.apart x h;
        }

  -- a representative has no more rows than the list
  pub back_fits : (back : List ℕ) (size : ℕ → ℕ) → MergedBack back size → Once back → (j : ℕ) → has back j ≡ true → has rest j ≡ true →
      into j ≡ j → size j ≤ sum_by old back
  back_fits back size so once j h m e = let a = so.kept j m e in let b =
      sum_apart old (λ x. into x == j) j back once h (eq-eqb (into j) j e) in let c = sum_part old (λ x. into x == j) back in
      omega (arith, a, b, c)

  -- all are merged
  pub back_all : Once rest → (size : ℕ → ℕ) → MergedBack rest size → (x : ℕ) →
      size x ≡ cond (has rest x) (cond (into x == x) (sum_by old (filter (λ j. into j == x) rest)) 0) (old x)
  back_all once size so x = let sum : ℕ = sum_by old (filter (λ j. into j == x) rest) in elim (cases_Bool (has rest x)) [
    | inr h ↦ so.apart x h ∙ sym (cond-false (has rest x) (cond (into x == x) sum 0) (old x) h)
    | inl h ↦ elim (cases_eq (into x) x) [
      | inl e ↦ (let a = so.kept x h e in let c = sum_apart old (λ j. into j == x) x rest once h (eq-eqb (into x) x e) in
          let d : size x ≡ sum = omega (arith, a, c) in d ∙ sym (cond-true (into x == x) sum 0 (eq-eqb (into x) x e)))
          ∙ sym (cond-true (has rest x) (cond (into x == x) sum 0) (old x) h)
      | inr ne ↦ so.gone x h ne ∙ sym (cond-false (into x == x) sum 0 (ne_eqb (into x) x ne))
          ∙ sym (cond-true (has rest x) (cond (into x == x) sum 0) (old x) h)
    ]
  ]

-- ---- what is written for each class that ends

module _ {A : Type 0} (into : ℕ → ℕ) (val first : ℕ → A) where
  abbrev pub Written : List ℕ → (ℕ → A) → Type 0
  Written back now = (x : ℕ) → now x ≡ cond (has back x && not (into x == x)) (val x) (first x)

  pub written_none : Written [] first
  unfolding has
  written_none x = refl

  pub written_not : (back : List ℕ) (now : ℕ → A) → Written back now → (x : ℕ) → has back x ≡ false → now x ≡ first x
  written_not back now so x h = so x ∙ cond-false (has back x && not (into x == x)) (val x) (first x)
      (and_left (has back x) (not (into x == x)) h)

  pub written_self : (back : List ℕ) (now : ℕ → A) → Written back now → (x : ℕ) → into x ≡ x → now x ≡ first x
  written_self back now so x e = so x ∙ cond-false (has back x && not (into x == x)) (val x) (first x)
      (and_right (has back x) (not (into x == x)) (not_from_true (into x == x) (eq-eqb (into x) x e)))

  module _ (i : ℕ) (back : List ℕ) (fresh : has back i ≡ false) (now after : ℕ → A) (so : Written back now) where
    elsewhere : (x : ℕ) → (x ≡ i → ⊥) → after x ≡ now x → after x ≡ cond (has (i ∷ back) x && not (into x == x)) (val x) (first x)
    unfolding has
    elsewhere x ne e = e ∙ so x ∙ sym (ap (λ b. cond ((b || has back x) && not (into x == x)) (val x) (first x))
        (ne_eqb i x (λ q. ne (sym q))))

    pub written_stays : into i ≡ i → ((x : ℕ) → after x ≡ now x) → Written (i ∷ back) after
    written_stays self same x = elim (cases_eq x i) [
      | inr ne ↦ elsewhere x ne (same x)
      | inl q ↦ ap after q ∙ same i ∙ written_not back now so i fresh ∙ ap first (sym q)
          ∙ sym (cond-false (has (i ∷ back) x && not (into x == x)) (val x) (first x)
          (and_right (has (i ∷ back) x) (not (into x == x))
          (not_from_true (into x == x) (eq-eqb (into x) x (ap into q ∙ self ∙ sym q)))))
    ]

    pub written_moves : (into i ≡ i → ⊥) → after i ≡ val i → ((x : ℕ) → (x ≡ i → ⊥) → after x ≡ now x) → Written (i ∷ back) after
    written_moves other here same x = elim (cases_eq x i) [
      | inr ne ↦ elsewhere x ne (same x ne)
      | inl q ↦ ap after q ∙ here ∙ ap val (sym q)
          ∙ sym (cond-true (has (i ∷ back) x && not (into x == x)) (val x) (first x)
          (and_from (has (i ∷ back) x) (not (into x == x)) (has_head x i back q)
          (not_from_false (into x == x) (ne_eqb (into x) x (λ e. other (ap into (sym q) ∙ e ∙ q))))))
    ]
