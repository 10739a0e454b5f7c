-- The start and the end of the walk.
use Rattle.std.proofs.Common.{◌≡◌, ◌+◌, inl, inr, ℕ, Bool, true, false, List, length, get_or, arith, refl, cond, eqb, ltb, ◌||◌, ◌&&◌}
use Rattle.std.proofs.Math.Bool.{or_comm, or-false}
use Rattle.std.proofs.lemmas.Bool.{or_left, cases_eq, cases_lt, eq-eqb, lt-ltb, le-ltb, ne_eqb}
use Rattle.std.proofs.lemmas.List.{get_or_past}
use Rattle.std.specs.Cmp.{both_ways}
use Rattle.amd_edges.proofs.Forms.{IsSortedForm}
use Rattle.amd_types.specs.Naturals.{is_before, is_entry, is_edge}
use Rattle.amd_edges.specs.Walk.{IsScan, is_read, is_met, met}
use Rattle.amd_edges.proofs.Places.{cases_order, funext2, before_from, before_gives, before_none, entry_from, entry_gives}
use Rattle.amd_edges.proofs.Places.{entry_none}

module _ (n : ℕ) (ap' ai : List ℕ) (form : IsSortedForm n ap' ai) (t : List ℕ) where
  pub start_met : ((a : ℕ) → get_or t a 0 ≡ 0) → met n ap' ai t 0 0 ≡ (λ a b. false)
  unfolding met is_met is_read
  start_met zeros = funext2 _ _ (λ a b. rw (half a b, half b a) refl)
    where
      drops : (x p r : Bool) → (x && cond p (r && false) false) ≡ false
      drops true true true = refl
      drops true true false = refl
      drops true false r = refl
      drops false p r = refl

      half : (a b : ℕ) → is_met n ap' ai t 0 0 a b ≡ false
      half a b = rw (zeros a, before_none ap' ai 0 b a (λ q low high e. omega arith), le-ltb b 0 (omega arith), le-ltb a 0 (omega arith))
          (drops (ltb a b) (is_entry n ap' ai a b) (eqb b 0))

  pub start_zeros : length t ≡ 0 → (a : ℕ) → get_or t a 0 ≡ 0
  start_zeros empty a = get_or_past t a 0 (omega arith)

  pub start_scan : length t ≡ 0 → IsScan n ap' ai t 0 0
  start_scan size = record {
    size = size;
    start = λ a x y. absurd (omega arith);
    stop = λ a x y. absurd (omega arith);
    low = λ a r x y z w. absurd (omega arith);
    unset = λ a x. start_zeros size a;
    passed = λ a c r x y z w l h le. elim z [ inl v ↦ absurd (omega arith) | inr v ↦ (let u = v.1 in absurd (omega arith)) ];
    reached = λ a r x y h. (let z = start_zeros size a in absurd (omega arith));
  }

  -- there is no column n
  pub rest_met : (j : ℕ) → met n ap' ai t n (j + 1) ≡ met n ap' ai t n j
  unfolding met is_met is_read
  rest_met j = funext2 _ _ (λ a b. rw (half a b, half b a) refl)
    where
      half : (a b : ℕ) → is_met n ap' ai t n (j + 1) a b ≡ is_met n ap' ai t n j a b
      half a b = elim (cases_eq b n) [
        | inr ne ↦ rw (ne_eqb b n ne) refl
        | inl same ↦ rw (entry_none ap' ai n a b (λ q h low high e. omega arith)) refl
      ]

  pub done_met : IsScan n ap' ai t n n → met n ap' ai t n n ≡ is_edge n ap' ai
  unfolding met is_met is_read is_edge
  done_met scan = funext2 _ _ (λ a b. elim (cases_order a b) [
    | inl x ↦ rw (half a b, half b a, lt-ltb a b x, le-ltb b a (omega arith), ne_eqb a b (λ e. omega arith)) (or-false _)
    | inr y ↦ elim y [
      | inl x ↦ rw (half a b, half b a, le-ltb a b (omega arith), le-ltb b a (omega arith), eq-eqb a b x) refl
      | inr x ↦ rw (half a b, half b a, lt-ltb b a x, le-ltb a b (omega arith), ne_eqb a b (λ e. omega arith))
          (or_comm _ (is_entry n ap' ai a b))
    ]
  ])
    where
      -- what stands before the pointer is now all of the column
      whole : (a b : ℕ) → is_before ap' ai (get_or t a 0) b a ≡ is_entry n ap' ai b a
      whole a b = both_ways _ _
          (λ h. let r = before_gives ap' ai _ b a h in elim (cases_lt a n) [
            | inl x ↦ entry_from ap' ai n b a r.0 x r.1 (let y = r.2 in let z = scan.stop a x x in omega arith) r.3
            | inr x ↦ (let y = r.2 in let z = scan.unset a x in absurd (omega arith))
          ])
          (λ h. let r = entry_gives ap' ai n b a h in before_from ap' ai _ b a r.0 r.2 (
          let row = form.rows a r.0 r.1 r.2 r.3 in
          scan.passed a n r.0 r.1 r.1 (inr (refl, r.1)) (λ x. absurd (omega arith)) r.2 r.3 (omega arith)) r.4)

      or_cond : (p s r : Bool) → (p ≡ true → r ≡ true) → cond p r s ≡ (p || s)
      or_cond true s r h = h refl
      or_cond false s r h = refl

      half : (a b : ℕ) → is_met n ap' ai t n n a b ≡ (ltb a b && (is_entry n ap' ai a b || is_entry n ap' ai b a))
      half a b = rw (
        whole a b,
        or_cond (is_entry n ap' ai a b) (is_entry n ap' ai b a) _ (λ h. let r = entry_gives ap' ai n a b h in
            or_left (ltb b n) _ (lt-ltb b n r.1)),
      ) refl
